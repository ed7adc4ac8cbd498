use Rattle.sgb_vec.proofs.Common.{◌∙◌, sym, ap, length, length-map}
use Rattle.sgb_ops.proofs.products.names_of_pairs.Goals as goal

pub paired_names-requires-clause-first : goal.paired_names-requires-clause-first
paired_names-requires-clause-first c = c.n.ensures.count ∙ sym (ap length c.in_ok-ours.ensures.ok ∙ length-map c.args.first.now.vertices (λ x. x.name))

pub paired_names-requires-clause-second : goal.paired_names-requires-clause-second
paired_names-requires-clause-second c = c.n-2.ensures.count ∙ sym (ap length c.in_ok-theirs.ensures.ok ∙ length-map c.args.second.now.vertices (λ x. x.name))
