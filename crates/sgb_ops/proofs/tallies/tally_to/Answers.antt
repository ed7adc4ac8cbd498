use Rattle.sgb_vec.proofs.Common.{rules, option_map_or, length-take-le}
use Rattle.sgb_ops.proofs.TallyLemmas.{few_to, no_arc}
use Rattle.sgb_ops.proofs.tallies.tally_to.Goals as goal

pub with_one_more-requires : goal.with_one_more-requires
with_one_more-requires c = search (rules, no_arc, few_to, option_map_or, length-take-le)
