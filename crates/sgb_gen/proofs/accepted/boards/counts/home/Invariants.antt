use Rattle.std.proofs.Common.{◌≡◌, ◌<◌, ◌≤◌, ◌*◌, ◌%◌, ◌&&◌, eqb, drop, ℕ}
use Rattle.sgb_vec.specs.Boxes.{product_of}
use Rattle.sgb_moves.specs.Moves.{sides_of}
use Rattle.sgb_gen.specs.inner.BoardCounts.{is_home}
use Rattle.sgb_gen.proofs.BoardCountsBoards.{home_from}
use Rattle.sgb_gen.proofs.accepted.boards.counts.home.Given as goal

-- the multiples of it lead home on the sides so far, and it is no more than their product
abbrev pub invariant-loop-k : goal.invariant-loop-k
invariant-loop-k l =
    (0 < l.home) × (0 < product_of (drop l.k l.sizes)) × (l.home * product_of (drop l.k l.sizes) ≤ product_of l.sizes)
    × ((n : ℕ) → (eqb (n % l.home) 0 && home_from l.sizes l.wrap l.t n l.k) ≡ is_home (sides_of l.sizes l.wrap) l.t n)
