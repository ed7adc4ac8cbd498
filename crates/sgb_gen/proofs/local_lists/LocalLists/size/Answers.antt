use Rattle.std.proofs.Common.{refl, arith}
use Rattle.sgb_gen.specs.Generators.{vector_graph_of}
use Rattle.sgb_gen.proofs.ListedGraphs.{of_local}
use Rattle.sgb_gen.proofs.LocalChains.{tips_within}
use Rattle.sgb_gen.proofs.VectorVertices.{vertices_are_members}
use Rattle.sgb_gen.proofs.local_lists.LocalLists.size.Goals as goal

pub returns-clause-tips : goal.returns-clause-tips
returns-clause-tips c v within =
    let g = vector_graph_of c.args.self.now in
    let own = of_local c.args.self.now in
    let size = vertices_are_members g g.vectors refl in
    rw size (tips_within g own.rising own.ends v (omega (arith, within, size)))
