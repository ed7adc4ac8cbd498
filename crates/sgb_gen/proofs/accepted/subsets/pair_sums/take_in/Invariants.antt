use Rattle.std.proofs.Common.{◌≡◌, ◌∷◌, ℕ, List, length}
use Rattle.sgb_gen.specs.inner.SubsetsPairs.{HasCounts, HasMost, IsTurned, cell_count, pairs_of_sums, pairs_up_to, place_of_pairs}
use Rattle.sgb_gen.proofs.accepted.subsets.pair_sums.take_in.Given as goal

-- the cells from this one on have the bound
abbrev pub invariant-loop-first : goal.invariant-loop-first
invariant-loop-first l =
    (length l.table ≡ cell_count l.sides.total l.sides.most) ×
    ((size_bits : ℕ) (bounds : List ℕ) → HasMost size_bits l.sides.total l.sides.most
    → HasCounts l.sides.total l.sides.most (pairs_up_to size_bits bounds) l.fn.table
    → IsTurned l.sides.total l.sides.most (place_of_pairs l.sides.total l.sides.most l.first 0 0) (pairs_up_to size_bits bounds) (pairs_of_sums size_bits (l.bound ∷ bounds)) l.table)
