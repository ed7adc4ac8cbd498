-- Moves by a displacement that leads onward, and back by its opposite: the vectors come in order.
use Rattle.std.proofs.lemmas.Bool.{cases_lt, cond-true, lt-ltb, cond-false, le-ltb}
use Rattle.std.proofs.Common.{◌≡◌, ◌≢◌, ℕ, zero, ◌+◌, ◌<◌, ℤ, pos, negsuc, ◌+ℤ◌, ◌*ℤ◌, true, List, [], ◌∷◌, length, map, Some, arith, true≢false, ltb}
use Rattle.std.proofs.lemmas.Int.{ints}
use Rattle.std.proofs.lemmas.Nat.{mul-le}
use Rattle.sgb_vec.specs.Lexicographic.{IsBefore, IsBelow}
use Rattle.sgb_vec.proofs.SumSuccessors.{IsBefore-less, IsBefore-same}
use Rattle.sgb_moves.specs.Moves.{LeadsTo, Side, opposite, place, sides_from_bit}
use Rattle.sgb_moves.specs.inner.Moves.{leads_onward}
use Rattle.sgb_gen.proofs.OrderedLists.{before_none}
use Rattle.sgb_moves.proofs.Riders.{Contains-rider_reach}
use Rattle.sgb_moves.proofs.TurnedMoves.{in_front-parts, place_home, place_start}

-- the farther back, the less
lower : (c e l m a b : ℕ) → l < m → pos c +ℤ pos l *ℤ negsuc e ≡ pos a → pos c +ℤ pos m *ℤ negsuc e ≡ pos b → b < a
lower c e l m a b less near far = grind (arith, mul-le, ints)

-- back by the opposite a greater length leads to an earlier vector
pub farther_earlier : (k : ℕ) (sizes : List ℕ) (wrap : ℤ) (x : List ℕ) (t : List ℤ) (l m : ℕ) (y z : List ℕ)
    → length t ≡ length sizes → leads_onward wrap k t ≡ true → l < m
    → place (sides_from_bit k sizes wrap) x (opposite t) l ≡ Some y → place (sides_from_bit k sizes wrap) x (opposite t) m ≡ Some z → IsBefore z y
farther_earlier k [] wrap x (u ∷ t) l m y z long onward less near far = absurd (omega (arith, long))
farther_earlier k (n ∷ sizes) wrap [] (u ∷ t) l m y z long onward less near far = absurd (cc)
farther_earlier k (n ∷ sizes) wrap (c ∷ x) (u ∷ t) l m [] z long onward less near far = grind (arith)
farther_earlier k (n ∷ sizes) wrap (c ∷ x) (u ∷ t) l m (a ∷ y) [] long onward less near far = grind (arith)
farther_earlier k (n ∷ sizes) wrap (c ∷ x) (pos zero ∷ t) l m (a ∷ y) (b ∷ z) long onward less near far = grind (arith, in_front-parts, ints, IsBefore-same, farther_earlier (k + 1) sizes wrap x t l m y z (omega (arith, long)) onward less (in_front-parts _ _ a y near).1 (in_front-parts _ _ b z far).1)
farther_earlier k sizes wrap x t l m y z long onward less near far = grind (arith, in_front-parts, IsBefore-less, lower, negsuc, true≢false, cases_lt, cond-true, ltb, lt-ltb, cond-false, le-ltb)

-- a move has a length
pub some_length : (sides : List Side) (piece : ℤ) (x : List ℕ) (t : List ℤ) (l : ℕ) (y : List ℕ) → IsBelow x (map (λ s. s.size) sides) → LeadsTo sides piece x t l y → 0 < l
some_length sides (pos p) x t l y below leads = grind (arith)
some_length sides (negsuc p) x t l y below leads = omega (arith, ((Contains-rider_reach sides x t l below).0 leads.0).0)

-- back by the opposite is an earlier vector
pub back_earlier : (sizes : List ℕ) (wrap : ℤ) (x : List ℕ) (t : List ℤ) (l : ℕ) (z : List ℕ) → IsBelow x (map (λ s. s.size) (sides_from_bit 0 sizes wrap))
    → length t ≡ length sizes → leads_onward wrap 0 t ≡ true → 0 < l → place (sides_from_bit 0 sizes wrap) x (opposite t) l ≡ Some z → IsBefore z x
back_earlier sizes wrap x t l z below long onward some far =
    farther_earlier 0 sizes wrap x t 0 l x z long onward some (place_start (sides_from_bit 0 sizes wrap) x (opposite t) l z below far) far

-- and onward is another one
pub onward_elsewhere : (sizes : List ℕ) (wrap : ℤ) (x : List ℕ) (t : List ℤ) (l : ℕ) → IsBelow x (map (λ s. s.size) (sides_from_bit 0 sizes wrap))
    → length t ≡ length sizes → leads_onward wrap 0 t ≡ true → 0 < l → place (sides_from_bit 0 sizes wrap) x t l ≢ Some x
onward_elsewhere sizes wrap x t l below long onward some home =
    before_none x (back_earlier sizes wrap x t l x below long onward some (place_home (sides_from_bit 0 sizes wrap) x t l x below home))
