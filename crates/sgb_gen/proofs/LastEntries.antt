-- The arcs to vectors that begin alike where a single 1 is left to be placed, place by place.
use Rattle.std.proofs.Common.{◌≡◌, ℕ, ◌+◌, ◌-◌, ◌<◌, ◌≤◌, min, pos, Bool, ◌&&◌, cond, List, [], ◌∷◌, ◌++◌, length, replicate, reverse, take, drop, set, get_or, suc, ltb, append-nil, append_assoc, refl, sym, ap, ap₂, ◌∙◌, inl, inr, arith}
use Rattle.std.proofs.lemmas.Bool.{cases_lt, le-ltb, lt-ltb}
use Rattle.std.proofs.lemmas.List.{drop-drop, drop-replicate, drop_all, drop_more, length-append, length-drop, length-take-le, set_at, take-append-drop, take_at}
use Rattle.std.proofs.lemmas.Simd.{splat_is_map}
use Rattle.sgb_vec.specs.Lexicographic.{IsWithin}
use Rattle.sgb_vec.specs.Sums.{bounded_sums}
use Rattle.sgb_vec.proofs.SumMembers.{IsWithin-length}
use Rattle.sgb_gen.specs.LocalLists.{LocalArc}
use Rattle.sgb_gen.specs.Subsets.{is_wanted_size}
use Rattle.sgb_gen.specs.inner.Descents.{arcs_under, front_of, row}
use Rattle.sgb_gen.proofs.Descents.{sums-past}
use Rattle.sgb_gen.proofs.DescentArcs.{all-rows, row-under, under-append, under-zeros, zeros}

-- the arc to the vector that goes on with a 1 and zeros
abbrev pub unit_arc : List ℕ → List ℕ → LocalArc
unit_arc front bs = record { tip = front ++ 1 ∷ zeros bs; len = pos 1 }

-- a 1 at the first place, if there is room for it, or at a later one
module _ (sb : ℕ) (front : List ℕ) (c b h : ℕ) (bs xs : List ℕ) where
  abbrev later : List LocalArc
  later = arcs_under sb (front ++ 0 ∷ []) c xs (reverse (bounded_sums 1 bs))

  first_row : arcs_under sb front c (h ∷ xs) (row 1 bs 1) ≡ cond (is_wanted_size sb (c + min h 1)) (unit_arc front bs ∷ []) []
  first_row =
      sym (row-under sb front c 1 h 1 bs xs (omega arith))
      ∙ under-zeros sb (front ++ 1 ∷ []) (c + min h 1) (1 - 1) bs xs (is_wanted_size sb (c + min h 1)) (omega arith) refl
      ∙ ap (λ t. cond (is_wanted_size sb (c + min h 1)) (record { tip = t; len = pos 1 } ∷ []) []) (append_assoc front (1 ∷ []) (zeros bs))

  later_row : arcs_under sb front c (h ∷ xs) (row 1 bs 0) ≡ later
  later_row =
      sym (row-under sb front c 1 h 0 bs xs (omega arith))
      ∙ ap₂ (λ k n. arcs_under sb (front ++ 0 ∷ []) k xs (reverse (bounded_sums n bs))) (omega arith) (omega arith)

  pub unit-first : arcs_under sb front c (h ∷ xs) (reverse (bounded_sums 1 (b ∷ bs))) ≡ cond (ltb 0 b && is_wanted_size sb (c + min h 1)) (unit_arc front bs ∷ []) [] ++ later
  unit-first =
      sym (all-rows sb front c 1 b h (min 1 b) bs xs (b ∷ bs) (h ∷ xs) refl refl refl)
      ∙ elim (cases_lt 0 b) [
        | inl some ↦ grind (arith, front, min, under-append, first_row, append-nil, later_row, cond, unit_arc, later, lt-ltb)
        | inr none ↦ grind (arith, front, min, append-nil, later_row, cond, unit_arc, later, le-ltb)
      ]

-- ---- a vector whose entries from a place on are 0

module _ (tip : List ℕ) (start n i : ℕ) (fits : start + n ≡ length tip) (rest : drop start tip ≡ replicate n 0) (within : i < n) where
  abbrev front : List ℕ
  front = take (start + i) tip

  tip_is : tip ≡ front ++ 0 ∷ replicate (n - (i + 1)) 0
  tip_is =
      sym (take-append-drop (start + i) tip)
      ∙ ap (λ l. front ++ l)
      (ap (λ k. drop k tip) (omega arith) ∙ sym (drop-drop i start tip) ∙ ap (drop i) rest ∙ drop-replicate i n 0 ∙ ap (λ k. replicate k 0) {y = suc (n - (i + 1))} (omega arith))

  front_long : length front ≡ start + i
  front_long = length-take-le (start + i) tip (omega arith)

  pub unit-set : (bs : List ℕ) → length bs ≡ n - (i + 1) → set tip (start + i) 1 ≡ front ++ 1 ∷ zeros bs
  unit-set bs long =
      ap (λ l. set l (start + i) 1) tip_is
      ∙ set_at front 0 (replicate (n - (i + 1)) 0) 1 (start + i) front_long
      ∙ ap (λ k. front ++ 1 ∷ replicate k 0) (sym long)
      ∙ ap (λ l. front ++ 1 ∷ l) (splat_is_map bs (length bs) 0 refl)

  pub zero-more : take (start + (i + 1)) tip ≡ front ++ 0 ∷ []
  zero-more =
      ap (take (start + (i + 1))) (tip_is ∙ sym (append_assoc front (0 ∷ []) (replicate (n - (i + 1)) 0)))
      ∙ take_at (front ++ 0 ∷ []) (replicate (n - (i + 1)) 0) (start + (i + 1)) (omega (arith, length-append front (0 ∷ []), front_long))

-- zeros are as many as the bounds are
pub zeros_filled : (tip new bs x : List ℕ) → IsWithin x bs → length x ≤ length tip → new ≡ take (length tip - length x) tip ++ replicate (length tip - (length tip - length x)) 0 → new ≡ front_of tip x ++ zeros bs
zeros_filled tip new bs x within fits is =
    is
    ∙ ap (λ n. front_of tip x ++ replicate n 0) {y = length bs} (omega (arith, IsWithin-length bs x within))
    ∙ ap (λ l. front_of tip x ++ l) (splat_is_map bs (length bs) 0 refl)

-- and they leave what stands before them
pub zeros_kept : (tip new x : List ℕ) → length x ≤ length tip → length new ≡ length tip → new ≡ take (length tip - length x) tip ++ replicate (length tip - (length tip - length x)) 0 → front_of new x ≡ front_of tip x
zeros_kept tip new x fits long is =
    let start = length tip - length x in
    ap₂ (λ k l. take (k - length x) l) long is ∙ take_at (take start tip) (replicate (length tip - start) 0) start (length-take-le start tip (omega (arith, fits)))

-- ---- the walk over the places

-- one place more
pub units-more : (sb : ℕ) (tip : List ℕ) (c start i n b h : ℕ) (wanted : Bool) (bounds x : List ℕ) → start + n ≡ length tip → drop start tip ≡ replicate n 0 → n ≡ length x → length x ≡ length bounds → i < n
    → b ≡ get_or bounds i 0 → h ≡ get_or x i 0
    → wanted ≡ (ltb 0 b && is_wanted_size sb (c + min h 1))
    → arcs_under sb (take (start + i) tip) c (drop i x) (reverse (bounded_sums 1 (drop i bounds)))
    ≡ cond wanted (record { tip = set tip (start + i) 1; len = pos 1 } ∷ []) [] ++ arcs_under sb (take (start + (i + 1)) tip) c (drop (i + 1) x) (reverse (bounded_sums 1 (drop (i + 1) bounds)))
units-more sb tip c start i n b h wanted bounds x fits rest count same within b_is h_is wanted_is =
    let front = take (start + i) tip in
    let bs = drop (i + 1) bounds in
    let xs = drop (i + 1) x in
    let long : length bs ≡ n - (i + 1) = omega (arith, length-drop (i + 1) bounds, same, count) in
    let unit_is : cond wanted (record { tip = set tip (start + i) 1; len = pos 1 } ∷ []) [] ≡ cond (ltb 0 b && is_wanted_size sb (c + min h 1)) (unit_arc front bs ∷ []) [] =
    ap₂ (λ t v. cond t (record { tip = v; len = pos 1 } ∷ []) []) wanted_is (unit-set tip start n i fits rest within bs long) in
    ap₂ (λ v cs. arcs_under sb front c v (reverse (bounded_sums 1 cs)))
    (drop_more x i 0 (omega (arith, within, count)) ∙ ap (λ e. e ∷ xs) (sym h_is))
    (drop_more bounds i 0 (omega (arith, within, count, same)) ∙ ap (λ e. e ∷ bs) (sym b_is))
    ∙ unit-first sb front c b h bs xs
    ∙ ap₂ (λ l m. l ++ m) (sym unit_is) (ap (λ f. arcs_under sb f c xs (reverse (bounded_sums 1 bs))) (sym (zero-more tip start n i fits rest within)))

-- and no place is left
pub none-left : (sb : ℕ) (front : List ℕ) (c left i : ℕ) (bounds x : List ℕ) → 0 < left → length x ≤ i → length bounds ≤ i → arcs_under sb front c (drop i x) (reverse (bounded_sums left (drop i bounds))) ≡ []
none-left sb front c left i bounds x some none none_bound =
    cc (drop_all i x none, drop_all i bounds none_bound, sums-past left [] (omega (arith, some)))
