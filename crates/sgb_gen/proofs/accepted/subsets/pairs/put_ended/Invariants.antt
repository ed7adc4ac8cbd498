use Rattle.std.proofs.Common.{◌≡◌, length}
use Rattle.sgb_gen.proofs.SubsetsPairTables.{HasEndedPairs}
use Rattle.sgb_gen.proofs.accepted.subsets.pairs.put_ended.Given as goal

-- the cells so far
abbrev pub invariant-loop-common : goal.invariant-loop-common
invariant-loop-common l = (length l.table ≡ length l.fn.table) × HasEndedPairs l.size_bits l.common l.table
