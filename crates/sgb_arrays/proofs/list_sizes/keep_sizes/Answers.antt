use Rattle.std.proofs.Common.{arith, rules}
use Rattle.sgb_arrays.proofs.SharedLists.{chain_on_way, known_more}
use Rattle.sgb_arrays.proofs.list_sizes.keep_sizes.Goals as goal

pub loop-link-init : goal.loop-link-init
loop-link-init c = search (rules, chain_on_way)

pub loop-link-preserved : goal.loop-link-preserved
loop-link-preserved c = search (rules, known_more)
