use Rattle.std.proofs.Common.{rules, ◌≡◌, ℕ, List, length, take, drop, ◌++◌}
use Rattle.std.proofs.Math.Seq.{take-append_seam}
use Rattle.std.proofs.lemmas.Int.{to_z-of_z}
use Rattle.sgb_moves.proofs.MovedCoordinates.{place_by_parts}
use Rattle.sgb_moves.proofs.moves.place.Goals as goal

-- what is put anew into as many elements
refilled : (n : ℕ) (xs ys : List ℕ) → length xs ≡ n → take n (xs ++ drop (length xs) ys) ≡ xs
refilled n xs ys long = rw (← long) (take-append_seam xs (drop (length xs) ys))

pub returns-then-not-move_parts-clause-nowhere : goal.returns-then-not-move_parts-clause-nowhere
returns-then-not-move_parts-clause-nowhere c = search (rules, to_z-of_z, place_by_parts)

pub returns-clause-leads : goal.returns-clause-leads
returns-clause-leads c = search (rules, to_z-of_z, place_by_parts, refilled)
