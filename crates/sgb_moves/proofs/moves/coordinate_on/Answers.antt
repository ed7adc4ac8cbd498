use lib.Signed.{le_z, lt_z}
use Rattle.std.proofs.Common.{◌≡◌, ℕ, ℤ, pos, negsuc, Bool, true, Some, nat_abs, sym, true≢false, rules}
use Rattle.std.proofs.lemmas.Bool.{ltb-true}
use Rattle.std.proofs.lemmas.Int.{to_z-of_z}
use Rattle.sgb_moves.specs.Moves.{coordinate_on}
use Rattle.sgb_moves.proofs.TurnedMoves.{side_itself}
use Rattle.sgb_moves.proofs.moves.coordinate_on.Goals as goal

-- what is within a side is the coordinate
within_side : (w : Bool) (n : ℕ) (y : ℤ) → le_z (pos 0) y ≡ true → lt_z y (pos n) ≡ true → Some (nat_abs y) ≡ coordinate_on (record { size = n; wraps = w }) y
within_side w n (pos a) some below = sym (side_itself w n a (ltb-true a n below))
within_side w n (negsuc a) some below = absurd (true≢false (sym some))

pub returns-then-y-from : goal.returns-then-y-from
returns-then-y-from c = search (rules, to_z-of_z, within_side, le_z, lt_z)
