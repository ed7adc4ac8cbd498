use Rattle.std.proofs.Common.{arith, rules}
use Rattle.sgb_arrays.proofs.SharedLists.{none_known}
use Rattle.sgb_arrays.proofs.list_sizes.list_sizes.Goals as goal

pub loop-v-init : goal.loop-v-init
loop-v-init c = search (rules, none_known)
