-- What is known of the board that is accepted.
use Rattle.std.proofs.Common.{arith, ◌≡◌, ℕ, ◌≤◌, ℤ, Bool, false, cond, ltb, List, length, Result, Ok, Err}
use Rattle.std.proofs.lemmas.Bool.{cases_lt, lt-ltb}
use Rattle.sgb_vec.specs.Boxes.{box_of, product_of}
use Rattle.sgb_vec.specs.Limits.{most_dimensions, most_vertices}
use Rattle.sgb_vec.specs.Sizes.{Normalized, board_of}
use Rattle.sgb_vec.specs.declared.panics.Panic.{Panic}
use Rattle.sgb_vec.proofs.SimplexBounds.{length-zero_after_stop}

-- a choice that is accepted was not refused
chosen : {X : Type 0} (b : Bool) (e : Panic) (r : Result X Panic) (x : X) → Ok x ≡ cond b (Err e) r → (b ≡ false) × (Ok x ≡ r)
chosen b e r x h = grind (arith)

-- the sizes of an accepted box
pub box_accepted : (sizes f : List ℕ) → Ok f ≡ box_of sizes → (sizes ≡ f) × (length f ≤ most_dimensions) × (product_of f ≤ most_vertices)
box_accepted sizes f h = grind (arith, chosen, cases_lt, lt-ltb)

-- an accepted board has four parameters
pub parameters_accepted : (n1 n2 n3 n4 : ℤ) (s : Normalized) → Ok s ≡ board_of n1 n2 n3 n4 → length s.params ≡ 4
parameters_accepted n1 n2 n3 n4 s h = grind (arith, chosen, ltb, length-zero_after_stop)
