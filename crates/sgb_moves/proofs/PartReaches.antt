-- How far the coordinates that a displacement moves stay on a board, and where they stand then.
use lib.Signed.{lt_z}
use Rattle.std.proofs.Common.{◌≡◌, ℕ, ◌+◌, ◌-◌, ◌/◌, ◌<◌, ◌≤◌, ℤ, pos, negsuc, ◌+ℤ◌, ◌*ℤ◌, nat_abs, of_z, w32, Bool, true, false, ◌&&◌, ltb, List, [], ◌∷◌, length, get_or, set, drop, take, sym, ap, ap₂, ◌∙◌, inl, inr, arith, true≢false}
use Rattle.std.specs.Option.{is_some, unwrap_or}
use Rattle.std.proofs.Math.Nat.{le-div_iff_mul-le}
use Rattle.std.proofs.Math.Bool.{and-false}
use Rattle.std.proofs.lemmas.Bool.{cases_lt, cond-false, le-ltb, ltb-false}
use Rattle.std.proofs.lemmas.Int.{ints}
use Rattle.std.proofs.lemmas.List.{at_drop_more, take_more}
use Rattle.std.proofs.lemmas.List.Folds.{list_all-append, list_all_kept}
use Rattle.sgb_moves.specs.Moves.{coordinate_on, within_size}
use Rattle.sgb_moves.specs.MovedCoordinates.{part_at, parts_put}
use Rattle.sgb_moves.specs.inner.MovedCoordinates.{parts_stay}
use Rattle.sgb_moves.proofs.BoundsSoFar.{on_side}

-- on a side that does not wrap, as many steps ahead as fit into what is left of it
pub ahead_stays : (w : Bool) (n x l : ℕ) (t : ℤ) → w ≡ false → x < n → lt_z (pos 0) t ≡ true → l ≤ (n - 1 - x) / nat_abs t
    → is_some (coordinate_on (record { size = n; wraps = w }) (pos x +ℤ pos l *ℤ t)) ≡ true
ahead_stays w n x l t clear below ahead fits = grind (arith, true≢false, on_side, le-div_iff_mul-le)

-- an amount other than 0
pub some_amount : (t : ℤ) → (of_z w32 t ≡ 0 → ⊥) → 0 < nat_abs t
some_amount t h = grind (arith)

-- and as many back as fit into what is behind
pub back_stays : (w : Bool) (n x l : ℕ) (t : ℤ) → w ≡ false → x < n → lt_z (pos 0) t ≡ false → l ≤ x / nat_abs t → 0 < nat_abs t
    → is_some (coordinate_on (record { size = n; wraps = w }) (pos x +ℤ pos l *ℤ t)) ≡ true
back_stays w n x l t clear below back fits some = grind (arith, true≢false, ltb-false, le-div_iff_mul-le, negsuc, ints, on_side)

off_side : (n : ℕ) (y : ℤ) → ((c : ℕ) → y ≡ pos c → n ≤ c) → is_some (within_size n y) ≡ false
off_side n y h = grind (arith, cond-false, ltb, le-ltb)

-- one step more leaves it
pub ahead_leaves : (w : Bool) (n x q : ℕ) (t : ℤ) → w ≡ false → x < n → lt_z (pos 0) t ≡ true → q ≡ (n - 1 - x) / nat_abs t
    → is_some (coordinate_on (record { size = n; wraps = w }) (pos x +ℤ pos (q + 1) *ℤ t)) ≡ false
ahead_leaves w n x q t clear below ahead is = grind (arith, true≢false, cases_lt, le-div_iff_mul-le, off_side, ints)

pub back_leaves : (w : Bool) (n x q : ℕ) (t : ℤ) → w ≡ false → x < n → lt_z (pos 0) t ≡ false → q ≡ x / nat_abs t → 0 < nat_abs t
    → is_some (coordinate_on (record { size = n; wraps = w }) (pos x +ℤ pos (q + 1) *ℤ t)) ≡ false
back_leaves w n x q t clear below back is some = grind (arith, true≢false, ltb-false, cases_lt, le-div_iff_mul-le, off_side, negsuc, ints)

-- ---- one of the parts after another

-- the part at a place
abbrev pub part_of : List (ℕ × ℤ) → ℕ → ℕ × ℤ
part_of parts i = get_or parts i (0, pos 0)

module _ (sizes : List ℕ) (wrap : ℤ) (x : List ℕ) (l : ℕ) (parts : List (ℕ × ℤ)) (i : ℕ) where
  pub stay_out : i < length parts → is_some (part_at sizes wrap x l (part_of parts i)) ≡ false → parts_stay sizes wrap x l (drop i parts) ≡ false
  stay_out within out =
      cc (at_drop_more (parts_stay sizes wrap x l) parts i (0, pos 0) within, out)

  pub stay_more : i < length parts → is_some (part_at sizes wrap x l (part_of parts i)) ≡ true → parts_stay sizes wrap x l (drop (i + 1) parts) ≡ parts_stay sizes wrap x l (drop i parts)
  stay_more within on =
      cc (on, at_drop_more (parts_stay sizes wrap x l) parts i (0, pos 0) within)

  pub put_more : (there : List ℕ) → i < length parts
      → parts_put sizes wrap x l (drop (i + 1) parts) (set there (part_of parts i).0 (unwrap_or (part_at sizes wrap x l (part_of parts i)) 0)) ≡ parts_put sizes wrap x l (drop i parts) there
  put_more there within = sym (at_drop_more (λ ps. parts_put sizes wrap x l ps there) parts i (0, pos 0) within)

-- ---- how many steps all parts stay

-- what is known once the parts before one place are seen: up to this length they stay, and at the next one not
pub record IsReachSoFar (sizes : List ℕ) (wrap : ℤ) (x : List ℕ) (most i reach : ℕ) (parts : List (ℕ × ℤ)) : Type 0 where
  pub within : reach ≤ most
  pub stay : (m : ℕ) → m ≤ reach → parts_stay sizes wrap x m (take i parts) ≡ true
  pub end : reach < most → parts_stay sizes wrap x (reach + 1) (take i parts) ≡ false

module _ (sizes : List ℕ) (wrap : ℤ) (x : List ℕ) (most : ℕ) (parts : List (ℕ × ℤ)) where
  on : ℕ → ℕ × ℤ → Bool
  on m p = is_some (part_at sizes wrap x m p)

  -- one part more
  pub reach-more : (i old new : ℕ) → i < length parts → IsReachSoFar sizes wrap x most i old parts → new ≤ old
      → ((m : ℕ) → m ≤ new → is_some (part_at sizes wrap x m (part_of parts i)) ≡ true)
      → (new < old → is_some (part_at sizes wrap x (new + 1) (part_of parts i)) ≡ false)
      → IsReachSoFar sizes wrap x most (i + 1) new parts
  reach-more i old new within so less stay end = record {
    within = omega (arith, less, so.within);
    stay = λ m h.
        ap (parts_stay sizes wrap x m) (take_more parts i (0, pos 0) within)
        ∙ list_all-append (λ p. is_some (part_at sizes wrap x m p)) (take i parts) (part_of parts i ∷ [])
        ∙ ap₂ (λ a b. a && (b && true)) (so.stay m (omega (arith, h, less))) (stay m h);
    end = λ h. elim (cases_lt new old) [
      | inl fewer ↦
          ap (parts_stay sizes wrap x (new + 1)) (take_more parts i (0, pos 0) within)
          ∙ list_all-append (λ p. is_some (part_at sizes wrap x (new + 1) p)) (take i parts) (part_of parts i ∷ [])
          ∙ ap (λ b. parts_stay sizes wrap x (new + 1) (take i parts) && (b && true)) (end fewer)
          ∙ and-false (parts_stay sizes wrap x (new + 1) (take i parts))
      | inr same ↦ grind (arith, list_all_kept)
    ];
  }
