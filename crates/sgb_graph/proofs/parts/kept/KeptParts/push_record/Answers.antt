use Rattle.std.proofs.Common.{◌∙◌, ap, sym}
use Rattle.sgb_graph.specs.Graphs.{GraphData}
use Rattle.sgb_graph.specs.Sound.{arc_kinds}
use Rattle.sgb_graph.proofs.KeptParts.{pair_kinds, record_kept}
use Rattle.sgb_graph.proofs.parts.kept.KeptParts.push_record.Goals as goal

pub push-requires-clause-kinds : goal.push-requires-clause-kinds
push-requires-clause-kinds c =
    pair_kinds _ _ _ _ (arc_kinds c.self.inside.kinds)
    ((record_kept c.args.self.now.kinds c.args.arc c.requires).kinds ∙ ap (λ (g : GraphData). arc_kinds g.kinds) (sym c.self.view_is)) c.self.invariant.2
