-- A unit of a vector that goes to a higher place.
use Rattle.std.proofs.Common.{◌≡◌, ℕ, zero, suc, ◌<◌, ◌≤◌, true, List, [], ◌∷◌, length, get_or, set, sum, arith, length-set, get_or-set_other}
use Rattle.std.proofs.lemmas.Bool.{and_parts, ltb-true}
use Rattle.std.proofs.lemmas.List.Sums.{sum_by-set}
use Rattle.sgb_vec.specs.Lexicographic.{IsWithin}
use Rattle.sgb_gen.specs.Simplexes.{Places}
use Rattle.sgb_gen.specs.inner.Simplexes.{can_shift, shifted}

-- an entry within its bound in the place of another
pub IsWithin-set : (v bounds : List ℕ) (i x : ℕ) → IsWithin v bounds → x ≤ get_or bounds i 0 → IsWithin (set v i x) bounds
IsWithin-set [] bounds i x h le = h
IsWithin-set (y ∷ v) [] i x h le = absurd h
IsWithin-set (y ∷ v) (b ∷ bounds) zero x h le = (le, h.1)
IsWithin-set (y ∷ v) (b ∷ bounds) (suc i) x h le = (h.0, IsWithin-set v bounds i x h.1 le)

-- an entry is within its bound
pub entry_within : (v bounds : List ℕ) (i : ℕ) → IsWithin v bounds → get_or v i 0 ≤ get_or bounds i 0
entry_within [] [] i h = omega arith
entry_within (y ∷ v) (b ∷ bounds) zero h = h.0
entry_within (y ∷ v) (b ∷ bounds) (suc i) h = entry_within v bounds i h.1
entry_within _ _ i h = absurd h

-- the shifted vector is within the bounds and has the same sum
pub shifted-in_sum : (bounds v : List ℕ) (at : Places) → at.lower < at.higher → at.higher < length v → can_shift bounds v at ≡ true → IsWithin v bounds → IsWithin (shifted v at) bounds × (sum (shifted v at) ≡ sum v)
shifted-in_sum bounds v at order within can h = grind (arith, and_parts, ltb-true, get_or-set_other, sum_by-set, length-set, IsWithin-set, entry_within)
