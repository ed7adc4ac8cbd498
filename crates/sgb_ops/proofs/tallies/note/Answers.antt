use Rattle.sgb_vec.proofs.Common.{rules, ◌∙◌, ap, arith, take_all, option_map_or, length-take-le}
use Rattle.sgb_ops.specs.inner.Tallies.{tally_at, tally_to}
use Rattle.sgb_ops.proofs.TallyLemmas.{no_arc, few_to}
use Rattle.sgb_ops.proofs.tallies.note.Goals as goal

pub with_one_more-requires : goal.with_one_more-requires
with_one_more-requires c = search (rules, no_arc, tally_at, tally_to, few_to, option_map_or, length-take-le)

pub returns-clause-noted : goal.returns-clause-noted
returns-clause-noted c = λ u. c.loop-arc.invariant.1 u ∙ ap (tally_to u) (take_all c.loop-arc.arc-index c.args.arcs.now (omega arith))
