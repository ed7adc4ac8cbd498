use Rattle.std.proofs.Common.{◌≤◌, ◌+◌, length, nat_abs}
use Rattle.sgb_moves.specs.inner.EntryBounds.{displacements_within}
use Rattle.sgb_gen.proofs.BoundedMoves.{bounds_of}
use Rattle.sgb_gen.proofs.accepted.boards.Board.has_countable_arcs.Given as goal

-- so many are passed, and the others are left
abbrev pub invariant-loop-passed : goal.invariant-loop-passed
invariant-loop-passed l = length (displacements_within (nat_abs l.self.piece) (bounds_of l.self)) ≤ l._passed + length l.left
