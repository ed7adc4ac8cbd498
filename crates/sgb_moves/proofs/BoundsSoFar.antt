-- Bounds of entries, side by side, as far as they are known; and coordinates that are on their side.
use Rattle.std.proofs.Common.{◌≡◌, ℕ, ◌<◌, ℤ, pos, true, ltb, List, ◌++◌, length, drop, Some, None, ap}
use Rattle.std.specs.Option.{is_some}
use Rattle.std.proofs.lemmas.Bool.{cond-true, lt-ltb}
use Rattle.sgb_moves.specs.inner.EntryBounds.{entry_bounds}
use Rattle.sgb_moves.specs.Moves.{sides_from_bit, sides_of, within_size}

-- the bounds that are known, one for each of the first k sides, and those of the other sides are all
pub record AreBoundsSoFar (p : ℕ) (sizes : List ℕ) (wrap : ℤ) (k : ℕ) (known : List ℕ) : Type 0 where
  pub count : length known ≡ k
  pub whole : known ++ entry_bounds p (sides_from_bit k (drop k sizes) wrap) ≡ entry_bounds p (sides_of sizes wrap)

-- a coordinate that is below the size, and one that is not
pub on_side : (n y : ℕ) → y < n → is_some (within_size n (pos y)) ≡ true
on_side n y h = ap is_some (cond-true (ltb y n) (Some y) None (lt-ltb y n h))
