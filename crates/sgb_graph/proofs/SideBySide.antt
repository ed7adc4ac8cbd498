-- Lists that are followed side by side, each by a step in turn: how many arcs are left of all.
use Rattle.std.proofs.Common.{◌≡◌, ◌<◌, ◌≤◌, ◌+◌, ◌||◌, ◌^◌, ℕ, Bool, true, false, [], ◌∷◌, refl, arith, if◌then◌else◌}
use Rattle.std.specs.Bool.{OnTrue, OnFalse}

-- a step of some lists: fewer arcs are left, or none are
pub record AreStepped (some : Bool) (before after : ℕ) : Type 0 where
  pub fewer : some ≡ true → after < before
  pub ended : some ≡ false → after ≡ 0

-- of one list
pub one_stepped : (some : Bool) (before after : ℕ) → OnTrue some (after + 1 ≡ before) → OnFalse some (after ≡ 0) → AreStepped some before after
one_stepped true before after less none = record { fewer = λ _. omega (arith, less); ended = λ e. absurd cc }
one_stepped false before after less none = record { fewer = λ e. absurd cc; ended = λ _. none }

-- of those before and one list more
pub more_stepped : {some other : Bool} {before after rest left : ℕ} → AreStepped some before after → AreStepped other rest left → AreStepped (some || other) (before + rest) (after + left)
more_stepped {some} {other} {before} {after} {rest} {left} one two = grind (arith, one.fewer, one.ended, two.fewer, two.ended)

-- what is left, and whether to go on, falls
pub stepped_falls : {some : Bool} {before after : ℕ} (more : Bool) → AreStepped some before after → more ≡ true → after + (if some then 1 else 0) < before + (if more then 1 else 0)
stepped_falls {some} {before} {after} more are e = grind (arith, are.fewer, are.ended)

-- a list, of which so many arcs were counted
pub still_short : (count left whole most len : ℕ) → count + left ≡ whole → whole ≤ most → len ≡ most → len < 2 ^ 64 → count + left < 2 ^ 64
still_short count left whole most len is short all few = omega arith

-- all arcs were counted where none is left
pub all_counted : (c1 c2 c3 c4 c5 c6 c7 c8 l1 l2 l3 l4 l5 l6 l7 l8 w1 w2 w3 w4 w5 w6 w7 w8 : ℕ) → c1 + l1 ≡ w1 → c2 + l2 ≡ w2 → c3 + l3 ≡ w3 → c4 + l4 ≡ w4 → c5 + l5 ≡ w5 → c6 + l6 ≡ w6 → c7 + l7 ≡ w7 → c8 + l8 ≡ w8 → l1 + l2 + l3 + l4 + l5 + l6 + l7 + l8 ≡ 0 → c1 ∷ c2 ∷ c3 ∷ c4 ∷ c5 ∷ c6 ∷ c7 ∷ c8 ∷ [] ≡ w1 ∷ w2 ∷ w3 ∷ w4 ∷ w5 ∷ w6 ∷ w7 ∷ w8 ∷ []
all_counted c1 c2 c3 c4 c5 c6 c7 c8 l1 l2 l3 l4 l5 l6 l7 l8 w1 w2 w3 w4 w5 w6 w7 w8 e1 e2 e3 e4 e5 e6 e7 e8 none =
    let h1 : c1 ≡ w1 = omega arith in
    let h2 : c2 ≡ w2 = omega arith in
    let h3 : c3 ≡ w3 = omega arith in
    let h4 : c4 ≡ w4 = omega arith in
    let h5 : c5 ≡ w5 = omega arith in
    let h6 : c6 ≡ w6 = omega arith in
    let h7 : c7 ≡ w7 = omega arith in
    let h8 : c8 ≡ w8 = omega arith in
    rw (h1, h2, h3, h4, h5, h6, h7, h8) refl
