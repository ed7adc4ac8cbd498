-- The vectors of a bounded sum by their first entries, the last vector first, and the arcs to them.
use Rattle.std.proofs.Common.{◌≡◌, ℕ, zero, suc, ◌+◌, ◌-◌, ◌<◌, ◌≤◌, ◌⊎◌, min, cond, eqb, List, [], ◌∷◌, ◌++◌, map, filter, reverse, sum, refl, sym, ap, ap₂, ◌∙◌, inl, inr, arith, append-nil, append_assoc}
use Rattle.std.specs.List.{Contains, flat_map, range_with_len}
use Rattle.std.proofs.lemmas.Bool.{cases_lt, le-leb, ne_eqb}
use Rattle.std.proofs.lemmas.Bool.Decides.{nat_tests}
use Rattle.std.proofs.lemmas.List.{map-append, reverse-append}
use Rattle.std.proofs.lemmas.List.Elements.{filter-append}
use Rattle.sgb_vec.specs.Boxes.{box}
use Rattle.sgb_vec.specs.Sums.{bounded_sums}
use Rattle.sgb_vec.proofs.Lists.{Contains-first, reverse-first}
use Rattle.sgb_vec.proofs.SumMembers.{Contains-bounded_sums}
use Rattle.sgb_vec.proofs.SumSuccessors.{sum-cons, sum-within}
use Rattle.sgb_gen.specs.inner.Descents.{row, rows}

-- ---- first entries

-- an entry in front of each, in the other order
reverse-front : (e : ℕ) (vs : List (List ℕ)) → reverse (map (λ v. e ∷ v) vs) ≡ map (λ v. e ∷ v) (reverse vs)
reverse-front e [] = refl
reverse-front e (v ∷ vs) =
    cc (reverse-first (e ∷ v) (map (λ w. e ∷ w) vs), reverse-front e vs, map-append (λ w. e ∷ w) (reverse vs) (v ∷ []), reverse-first v vs)

sums-front : (e r : ℕ) (vs : List (List ℕ)) → e ≤ r → filter (λ v. eqb (sum v) r) (map (λ v. e ∷ v) vs) ≡ map (λ v. e ∷ v) (filter (λ v. eqb (sum v) (r - e)) vs)
sums-front e r [] h = refl
sums-front e r (v ∷ vs) h = grind (arith, eqb, cond, filter, sum-cons, nat_tests, sums-front e r vs h)

sums-above : (e r : ℕ) (vs : List (List ℕ)) → r < e → filter (λ v. eqb (sum v) r) (map (λ v. e ∷ v) vs) ≡ []
sums-above e r [] h = refl
sums-above e r (v ∷ vs) h =
    rw (ne_eqb (sum (e ∷ v)) r (λ same. absurd (omega (arith, sum-cons e v)))) (sums-above e r vs h)

pub row-within : (r e : ℕ) (bs : List ℕ) → e ≤ r → row r bs e ≡ map (λ v. e ∷ v) (reverse (bounded_sums (r - e) bs))
row-within r e bs h = rw (le-leb e r h) refl

pub row-above : (r e : ℕ) (bs : List ℕ) → r < e → row r bs e ≡ []
row-above r e bs h = grind (arith, nat_tests)

-- the row of the least entry comes last
pub rows-first : (r : ℕ) (bs : List ℕ) (a n : ℕ) → rows r bs a (suc n) ≡ rows r bs (a + 1) n ++ row r bs a
rows-first r bs a zero = ap (λ e. row r bs e ++ []) (omega arith) ∙ append-nil (row r bs a)
rows-first r bs a (suc n) = grind (arith, append_assoc, rows-first r bs a n)

rows-filtered : (r : ℕ) (bs : List ℕ) (a n : ℕ) → reverse (filter (λ v. eqb (sum v) r) (flat_map (λ e. map (λ v. e ∷ v) (box (map (λ b. b + 1) bs))) (range_with_len a n))) ≡ rows r bs a n
unfolding bounded_sums
rows-filtered r bs a zero = refl
rows-filtered r bs a (suc n) = grind (arith, reverse, filter-append, eqb, reverse-append, filter, rows-first, cases_lt, sums-above, row-above, sums-front, reverse-front, row-within, rows-filtered r bs (a + 1) n)

-- all vectors, by their first entries
pub sums-rows : (r b : ℕ) (bs : List ℕ) → reverse (bounded_sums r (b ∷ bs)) ≡ rows r bs 0 (b + 1)
unfolding bounded_sums box
sums-rows r b bs = rows-filtered r bs 0 (b + 1)

-- ---- entries that are too great or leave too much

pub sums-past : (r : ℕ) (bs : List ℕ) → sum bs < r → bounded_sums r bs ≡ []
sums-past r bs h = none_there (bounded_sums r bs) (λ v there. let is = (Contains-bounded_sums r bs v).0 there in absurd (omega (arith, sum-within bs v is.0, is.1))) where
  none_there : (vs : List (List ℕ)) → ((v : List ℕ) → Contains vs v → ⊥) → vs ≡ []
  none_there [] never = refl
  none_there (v ∷ vs) never = absurd (never v (Contains-first v vs))

pub row-far : (r e : ℕ) (bs : List ℕ) → sum bs + e < r → row r bs e ≡ []
row-far r e bs h = row-within r e bs (omega arith) ∙ ap (λ vs. map (λ v. e ∷ v) (reverse vs)) (sums-past (r - e) bs (omega arith))

-- rows above
rows-cut : (r : ℕ) (bs : List ℕ) (low n k : ℕ) → r < low + n → rows r bs low (n + k) ≡ rows r bs low n
rows-cut r bs low n zero h = ap (rows r bs low) (omega arith)
rows-cut r bs low n (suc k) h = more (omega arith) ∙ ap (λ l. l ++ rows r bs low (n + k)) (row-above r (low + (n + k)) bs (omega arith)) ∙ rows-cut r bs low n k h where
  more : {m : ℕ} → m ≡ suc (n + k) → rows r bs low m ≡ row r bs (low + (n + k)) ++ rows r bs low (n + k)
  more is = ap (rows r bs low) is

pub rows-end : (r : ℕ) (bs : List ℕ) (low b : ℕ) → low ≤ r + 1 → rows r bs low (b + 1 - low) ≡ rows r bs low (min r b + 1 - low)
rows-end r bs low b h =
    elim (cases_lt r b) [
      | inl less ↦
          ap (rows r bs low) (omega arith) ∙ rows-cut r bs low (r + 1 - low) (b - r) (omega arith) ∙ ap (rows r bs low) (omega arith)
      | inr more ↦ ap (rows r bs low) (omega arith)
    ]

-- rows below
rows-raised : (r : ℕ) (bs : List ℕ) (low n k : ℕ) → sum bs + (low + k) ≤ r → rows r bs low (k + n) ≡ rows r bs (low + k) n
rows-raised r bs low n zero h = ap₂ (λ m a. rows r bs a m) (omega arith) (omega arith)
rows-raised r bs low n (suc k) h =
    ap (rows r bs low) {y = suc (k + n)} (omega arith)
    ∙ rows-first r bs low (k + n)
    ∙ ap (λ l. rows r bs (low + 1) (k + n) ++ l) (row-far r low bs (omega arith))
    ∙ append-nil (rows r bs (low + 1) (k + n))
    ∙ rows-raised r bs (low + 1) n k (omega arith)
    ∙ ap (λ a. rows r bs a n) (omega arith)

rows-none : (r : ℕ) (bs : List ℕ) (low n : ℕ) → sum bs + (low + n) ≤ r → rows r bs low n ≡ []
rows-none r bs low n h = ap (rows r bs low) (omega arith) ∙ rows-raised r bs low 0 n h

pub rows-start : (r room : ℕ) (bs : List ℕ) (low end : ℕ) → sum bs ≡ room → (least : ℕ) → (least ≡ low) ⊎ ((low ≤ least) × (least + room ≤ r)) → rows r bs low (end - low) ≡ rows r bs least (end - least)
rows-start r room bs low end is least (inl same) = ap (λ a. rows r bs a (end - a)) (sym same)
rows-start r room bs low end is least (inr (more, far)) =
    elim (cases_lt end least) [
      | inl past ↦ elim (cases_lt end low) [
        | inl none ↦ ap (rows r bs low) {y = 0} (omega arith) ∙ ap (rows r bs least) {x = 0} (omega arith)
        | inr some ↦ rows-none r bs low (end - low) (omega arith) ∙ ap (rows r bs least) {x = 0} (omega arith)
      ]
      | inr within ↦
          ap (rows r bs low) {y = least - low + (end - least)} (omega arith)
          ∙ rows-raised r bs low (end - least) (least - low) (omega arith)
          ∙ ap (λ a. rows r bs a (end - least)) (omega arith)
    ]

-- two parts of rows
pub rows-parts : (r : ℕ) (bs : List ℕ) (low m n : ℕ) → rows r bs low (m + n) ≡ rows r bs (low + m) n ++ rows r bs low m
rows-parts r bs low m zero = ap (rows r bs low) (omega arith)
rows-parts r bs low m (suc n) =
    more (omega arith) ∙ ap₂ (λ e l. row r bs e ++ l) (omega arith) (rows-parts r bs low m n)
    ∙ sym (append_assoc (row r bs (low + m + n)) (rows r bs (low + m) n) (rows r bs low m)) where
      more : {k : ℕ} → k ≡ suc (m + n) → rows r bs low k ≡ row r bs (low + (m + n)) ++ rows r bs low (m + n)
      more is = ap (rows r bs low) is
