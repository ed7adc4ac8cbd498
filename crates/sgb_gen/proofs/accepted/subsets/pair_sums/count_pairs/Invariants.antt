use Rattle.std.proofs.Common.{◌≡◌, ◌+◌, ◌%◌, ◌^◌, ◌∷◌, ℕ, List}
use Rattle.sgb_gen.specs.inner.SubsetsPairs.{HasMost, IsTurned, pairs_of_sums, pairs_up_to, place_of_pairs}
use Rattle.sgb_gen.proofs.SubsetsPairs.{pairs_from}
use Rattle.sgb_gen.proofs.accepted.subsets.pair_sums.count_pairs.Given as goal

-- what is counted, and the pairs of greater entries, are all
abbrev pub invariant-loop-entry : goal.invariant-loop-entry
invariant-loop-entry l =
    (size_bits : ℕ) (bounds : List ℕ) → HasMost size_bits l.sides.total l.sides.most
    → IsTurned l.sides.total l.sides.most (place_of_pairs l.sides.total l.sides.most l.first l.second l.common + 1) (pairs_up_to size_bits bounds) (pairs_of_sums size_bits (l.bound ∷ bounds)) l.table
    → (l.counted + pairs_from size_bits l.bound bounds l.first l.second l.common l.entry) % 2 ^ 64 ≡ pairs_of_sums size_bits (l.bound ∷ bounds) l.first l.second l.common % 2 ^ 64
