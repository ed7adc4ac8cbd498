-- Arcs that are counted.
use Rattle.std.specs.Prelude.{◌≡◌, ◌+◌, ℕ, List, [], ◌++◌, length}
use Rattle.std.proofs.Common.{arith, length-append}
use Rattle.sgb_gen.specs.LocalLists.{LocalArc}

-- no arc counts nothing
pub no_arc_counted : (n : ℕ) → n ≡ n + length {A = LocalArc} []
no_arc_counted n = omega arith

-- some arcs, and then others, are both
pub more_arcs_counted : (xs ys : List LocalArc) (old mid new : ℕ) → mid ≡ old + length xs → new ≡ mid + length ys → new ≡ old + length (xs ++ ys)
more_arcs_counted xs ys old mid new p q = omega (arith, p, q, length-append xs ys)
