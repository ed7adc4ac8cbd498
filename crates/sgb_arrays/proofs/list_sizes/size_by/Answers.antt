use Rattle.std.proofs.Common.{arith, rules}
use Rattle.sgb_arrays.proofs.SharedLists.{chain_on_way, known_here}
use Rattle.sgb_arrays.proofs.list_sizes.size_by.Goals as goal

pub loop-link-init : goal.loop-link-init
loop-link-init c = search (rules, chain_on_way)

pub returns-then-rest-gt0 : goal.returns-then-rest-gt0
returns-then-rest-gt0 c = search (rules, known_here)
