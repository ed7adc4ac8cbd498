use Rattle.std.proofs.Common.{◌≡◌, ◌+◌, length}
use Rattle.std.specs.List.{All, Contains}
use Rattle.sgb_gen.specs.Subsets.{moves_of_subsets, subsets_vectors}
use Rattle.sgb_gen.specs.inner.SubsetsCounts.{moves_among}
use Rattle.sgb_gen.proofs.accepted.subsets.Subsets.moves_by_walk.Given as goal

-- the moves to the vectors that are still to come are left to count
abbrev pub invariant-loop-x : goal.invariant-loop-x
invariant-loop-x l =
    All (Contains (subsets_vectors l.self)) l.left
    × (l.counted + moves_among l.self.size_bits l.self.sum.bounds l.left ≡ length (moves_of_subsets l.self))

-- each turn leaves out one vector
abbrev pub decreases-loop-x : goal.decreases-loop-x
decreases-loop-x l = length l.left
