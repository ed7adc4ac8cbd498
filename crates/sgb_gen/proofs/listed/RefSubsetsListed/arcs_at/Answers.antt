use Rattle.sgb_gen.specs.Subsets.{subsets_vector_graph}
use Rattle.sgb_gen.proofs.ListedGraphs.{of_subsets, tips_put, widths_put}
use Rattle.sgb_gen.proofs.listed.RefSubsetsListed.arcs_at.Goals as goal

pub returns-clause-tips : goal.returns-clause-tips
returns-clause-tips c =
    let s = c.args.self.now.now in
    tips_put (subsets_vector_graph s) (of_subsets s) c.arcs_at.result c.args.x.now c.arcs_at.new.links.arcs c.requires c.arcs_at.ensures.ok

pub returns-clause-widths : goal.returns-clause-widths
returns-clause-widths c =
    let s = c.args.self.now.now in
    widths_put (subsets_vector_graph s) (of_subsets s) c.arcs_at.result c.args.x.now c.arcs_at.new.links.arcs c.requires c.arcs_at.ensures.ok
