use Rattle.std.proofs.Common.{◌≡◌, ℕ, List, length}
use Rattle.sgb_gen.specs.inner.SubsetsPairs.{IsTurned, cell_count, pairs_of_sums, pairs_up_to, place_of_pairs}
use Rattle.sgb_gen.proofs.accepted.subsets.pair_sums.sum_up_row.Given as goal

-- the cells before this one are running sums
abbrev pub invariant-loop-second : goal.invariant-loop-second
invariant-loop-second l =
    (length l.table ≡ cell_count l.sides.total l.sides.most) ×
    ((size_bits : ℕ) (bounds : List ℕ) → IsTurned l.sides.total l.sides.most (place_of_pairs l.sides.total l.sides.most l.first 0 0) (pairs_up_to size_bits bounds) (pairs_of_sums size_bits bounds) l.fn.table
    → IsTurned l.sides.total l.sides.most (place_of_pairs l.sides.total l.sides.most l.first l.second 0) (pairs_up_to size_bits bounds) (pairs_of_sums size_bits bounds) l.table)
