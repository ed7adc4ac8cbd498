use Rattle.sgb_vec.proofs.Common.{◌∙◌, sym, ap, length, length-map}
use Rattle.sgb_ops.proofs.induced_graphs.copied_names.names_by_entries.Goals as goal

pub push_own-requires-clause-held : goal.push_own-requires-clause-held
push_own-requires-clause-held c = ap length c.in_ok-held.ensures.ok ∙ (length-map c.args.graph.now.vertices (λ x. x.name) ∙ sym c.n.ensures.count)
