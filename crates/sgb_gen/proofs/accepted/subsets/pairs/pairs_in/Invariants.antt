use Rattle.std.proofs.Common.{◌≡◌, drop, length}
use Rattle.sgb_gen.specs.inner.SubsetsPairs.{HasCounts, cell_count, pairs_of_sums}
use Rattle.sgb_gen.proofs.accepted.subsets.pairs.pairs_in.Given as goal

-- the table of the last bounds
abbrev pub invariant-loop-k : goal.invariant-loop-k
invariant-loop-k l =
    (length l.table ≡ cell_count l.sides.total l.sides.most) × HasCounts l.sides.total l.sides.most (pairs_of_sums l.size_bits (drop l.k l.bounds)) l.table
