use Rattle.std.proofs.Common.{◌∙◌, ap, sym}
use Rattle.sgb_graph.specs.Graphs.{GraphData}
use Rattle.sgb_graph.specs.Sound.{vertex_kinds}
use Rattle.sgb_graph.proofs.KeptParts.{vertex_kept}
use Rattle.sgb_graph.proofs.parts.kept.KeptParts.push_vertex.Goals as goal

pub push-requires-clause-kinds : goal.push-requires-clause-kinds
push-requires-clause-kinds c =
    (vertex_kept c.args.self.now.kinds c.args.vertex c.requires).kinds
    ∙ (ap (λ (g : GraphData). vertex_kinds g.kinds) (sym c.self.view_is) ∙ sym c.self.invariant.1)
