-- Whether a displacement leads onward, by the first coordinate that it moves.
use Rattle.std.proofs.Common.{◌≡◌, ℕ, zero, suc, ◌+◌, ℤ, pos, Bool, true, false, not, List, ◌∷◌, length, slice_index_or, refl, ◌∙◌, sym, ap, arith}
use Rattle.std.proofs.lemmas.Bool.Decides.{nat_tests}
use Rattle.std.specs.Int.Signed.{lt_z}
use Rattle.sgb_moves.specs.Moves.{is_bit_set}
use Rattle.sgb_moves.specs.MovedCoordinates.{parts_from, parts_of}
use Rattle.sgb_moves.specs.inner.Moves.{leads_onward}

-- the first of these parts goes ahead, on a side that does not wrap around
abbrev goes_onward : ℤ → List (ℕ × ℤ) → Bool
goes_onward wrap ((k, pos (suc c)) ∷ parts) = not (is_bit_set wrap k)
goes_onward wrap _ = false

by_parts : (wrap : ℤ) (k : ℕ) (t : List ℤ) → leads_onward wrap k t ≡ goes_onward wrap (parts_from k t)
by_parts wrap k (pos zero ∷ t) = by_parts wrap (k + 1) t
by_parts wrap k _ = refl

none : (wrap : ℤ) (parts : List (ℕ × ℤ)) → length parts ≡ 0 → goes_onward wrap parts ≡ false
none wrap parts e = grind (arith)

ahead : (wrap : ℤ) (parts : List (ℕ × ℤ)) → lt_z (pos 0) (slice_index_or parts 0 (0, pos 0)).1 ≡ true
    → goes_onward wrap parts ≡ not (is_bit_set wrap (slice_index_or parts 0 (0, pos 0)).0)
ahead wrap parts e = grind (arith)

behind : (wrap : ℤ) (parts : List (ℕ × ℤ)) → lt_z (pos 0) (slice_index_or parts 0 (0, pos 0)).1 ≡ false → goes_onward wrap parts ≡ false
behind wrap parts e = grind (arith, nat_tests)

module _ (wrap : ℤ) (t : List ℤ) (parts : List (ℕ × ℤ)) (is : parts ≡ parts_of t) where
  -- it moves no coordinate
  pub onward-none : length parts ≡ 0 → leads_onward wrap 0 t ≡ false
  onward-none e = by_parts wrap 0 t ∙ ap (goes_onward wrap) (sym is) ∙ none wrap parts e

  -- the first that it moves goes ahead
  pub onward-ahead : lt_z (pos 0) (slice_index_or parts 0 (0, pos 0)).1 ≡ true → leads_onward wrap 0 t ≡ not (is_bit_set wrap (slice_index_or parts 0 (0, pos 0)).0)
  onward-ahead e = by_parts wrap 0 t ∙ ap (goes_onward wrap) (sym is) ∙ ahead wrap parts e

  -- the first that it moves goes back
  pub onward-behind : lt_z (pos 0) (slice_index_or parts 0 (0, pos 0)).1 ≡ false → leads_onward wrap 0 t ≡ false
  onward-behind e = by_parts wrap 0 t ∙ ap (goes_onward wrap) (sym is) ∙ behind wrap parts e
