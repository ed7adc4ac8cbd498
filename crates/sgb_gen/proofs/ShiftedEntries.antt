-- The entries of a vector of which a unit has gone from one place to another, and where it stands among others.
use Rattle.std.proofs.Common.{◌≡◌, ◌≢◌, ℕ, ◌+◌, ◌-◌, ◌<◌, ◌⊎◌, true, List, length, get_or, set, sum, sym, ◌∙◌, inl, inr, arith, length-set}
use Rattle.std.proofs.lemmas.Bool.{and_parts, and_from, cases_eq, ltb-true}
use Rattle.std.proofs.lemmas.Bool.Decides.{Decides-ltb}
use Rattle.std.proofs.lemmas.List.{ext_get_or, get_or-set_same, get_or-set_other}
use Rattle.sgb_vec.specs.Lexicographic.{IsBefore, IsWithin}
use Rattle.sgb_gen.specs.Simplexes.{Places}
use Rattle.sgb_gen.specs.inner.Simplexes.{can_shift, shifted}
use Rattle.sgb_gen.specs.inner.LocalSimplexes.{can_return, returned}
use Rattle.sgb_gen.proofs.OrderedLists.{before_at}
use Rattle.sgb_gen.proofs.ShiftLemmas.{IsWithin-set, entry_within, shifted-in_sum}

-- two places of a vector of n entries, the lower one first
abbrev pub IsPair : ℕ → Places → Type 0
IsPair n at = (at.lower < at.higher) × (at.higher < n)

-- p comes before q in lexicographic order
abbrev pub RisesTo : Places → Places → Type 0
RisesTo p q = (p.lower < q.lower) ⊎ ((p.lower ≡ q.lower) × (p.higher < q.higher))

-- p comes before q where the lower places rise and the higher ones fall
abbrev pub FallsTo : Places → Places → Type 0
FallsTo p q = (p.lower < q.lower) ⊎ ((p.lower ≡ q.lower) × (q.higher < p.higher))

-- the entries after two writes
module _ (v : List ℕ) (i j a b : ℕ) (apart : i ≢ j) where
  written-length : length (set (set v i a) j b) ≡ length v
  written-length = length-set (set v i a) j b ∙ length-set v i a

  written-first : i < length v → get_or (set (set v i a) j b) i 0 ≡ a
  written-first within = get_or-set_other (set v i a) j i b 0 apart ∙ get_or-set_same v i a 0 within

  written-second : j < length v → get_or (set (set v i a) j b) j 0 ≡ b
  written-second within = get_or-set_same (set v i a) j b 0 (omega (arith, length-set v i a))

  written-other : (k : ℕ) → k ≢ i → k ≢ j → get_or (set (set v i a) j b) k 0 ≡ get_or v k 0
  written-other k from_i from_j = get_or-set_other (set v i a) j k b 0 from_j ∙ get_or-set_other v i k a 0 from_i

  -- writes that put the old entries back
  written-back : (c d : ℕ) → i < length v → j < length v → d ≡ get_or v j 0 → c ≡ get_or v i 0 → set (set (set (set v i a) j b) j d) i c ≡ v
  written-back c d in_i in_j is_d is_c =
      let u = set (set v i a) j b in
      let w = set u j d in
      let long_u : length u ≡ length v = written-length in
      let long_w : length w ≡ length v = length-set u j d ∙ long_u in
      ext_get_or 0 (set w i c) v (length-set w i c ∙ long_w)
      (λ k within. elim (cases_eq k i) [
        | inl same ↦ grind (arith, set, get_or-set_same)
        | inr from_i ↦ grind (arith, get_or-set_other, cases_eq, set, get_or-set_same, written-other)
      ])

-- what a unit that can go says of the entries
pub can_shift-says : (bounds v : List ℕ) (at : Places) → can_shift bounds v at ≡ true → (0 < get_or v at.lower 0) × (get_or v at.higher 0 < get_or bounds at.higher 0)
can_shift-says bounds v at can = grind (arith, and_parts, ltb-true)

can_return-says : (bounds v : List ℕ) (at : Places) → can_return bounds v at ≡ true → (0 < get_or v at.higher 0) × (get_or v at.lower 0 < get_or bounds at.lower 0)
can_return-says bounds v at can = grind (arith, and_parts, ltb-true)

-- a vector and a pair of its places
module _ (bounds v : List ℕ) (at : Places) (pair : IsPair (length v) at) where
  low_apart : at.lower ≢ at.higher
  low_apart = omega (arith, pair.0)

  high_apart : at.higher ≢ at.lower
  high_apart = omega (arith, pair.0)

  in_low : at.lower < length v
  in_low = omega (arith, pair.0, pair.1)

  pub length-shifted : length (shifted v at) ≡ length v
  length-shifted = written-length v at.lower at.higher (get_or v at.lower 0 - 1) (get_or v at.higher 0 + 1) low_apart

  pub length-returned : length (returned v at) ≡ length v
  length-returned = written-length v at.higher at.lower (get_or v at.higher 0 - 1) (get_or v at.lower 0 + 1) high_apart

  shifted-low : get_or (shifted v at) at.lower 0 ≡ get_or v at.lower 0 - 1
  shifted-low = written-first v at.lower at.higher (get_or v at.lower 0 - 1) (get_or v at.higher 0 + 1) low_apart in_low

  shifted-high : get_or (shifted v at) at.higher 0 ≡ get_or v at.higher 0 + 1
  shifted-high = written-second v at.lower at.higher (get_or v at.lower 0 - 1) (get_or v at.higher 0 + 1) low_apart pair.1

  shifted-other : (k : ℕ) → k ≢ at.lower → k ≢ at.higher → get_or (shifted v at) k 0 ≡ get_or v k 0
  shifted-other = written-other v at.lower at.higher (get_or v at.lower 0 - 1) (get_or v at.higher 0 + 1) low_apart

  returned-high : get_or (returned v at) at.higher 0 ≡ get_or v at.higher 0 - 1
  returned-high = written-first v at.higher at.lower (get_or v at.higher 0 - 1) (get_or v at.lower 0 + 1) high_apart pair.1

  returned-low : get_or (returned v at) at.lower 0 ≡ get_or v at.lower 0 + 1
  returned-low = written-second v at.higher at.lower (get_or v at.higher 0 - 1) (get_or v at.lower 0 + 1) high_apart in_low

  returned-other : (k : ℕ) → k ≢ at.higher → k ≢ at.lower → get_or (returned v at) k 0 ≡ get_or v k 0
  returned-other = written-other v at.higher at.lower (get_or v at.higher 0 - 1) (get_or v at.lower 0 + 1) high_apart

  -- a unit that went comes back
  pub returned-shifted : can_shift bounds v at ≡ true → returned (shifted v at) at ≡ v
  returned-shifted can = grind (arith, can_shift-says, written-back, low_apart, in_low, shifted-high, shifted-low)

  pub shifted-returned : can_return bounds v at ≡ true → shifted (returned v at) at ≡ v
  shifted-returned can = grind (arith, can_return-says, written-back, high_apart, in_low, returned-low, returned-high)

  -- and can go again
  pub can_return-shifted : IsWithin v bounds → can_shift bounds v at ≡ true → can_return bounds (shifted v at) at ≡ true
  can_return-shifted within can = grind (arith, can_shift-says, and_from, Decides-ltb, shifted-high, shifted-low, entry_within)

  pub can_shift-returned : IsWithin v bounds → can_return bounds v at ≡ true → can_shift bounds (returned v at) at ≡ true
  can_shift-returned within can = grind (arith, can_return-says, and_from, Decides-ltb, returned-low, returned-high, entry_within)

  -- the vector that it came from comes later
  pub shifted-before : can_shift bounds v at ≡ true → IsBefore (shifted v at) v
  shifted-before can = grind (arith, can_shift-says, before_at, shifted-other, shifted-low, length-shifted, in_low)

  -- a unit that goes to a lower place leaves the bounds and the sum as they are
  pub returned-in_sum : IsWithin v bounds → can_return bounds v at ≡ true → IsWithin (returned v at) bounds × (sum (returned v at) ≡ sum v)
  returned-in_sum within can = grind (arith, can_return-says, IsWithin-set, entry_within, shifted-in_sum, length-returned, can_shift-returned, shifted-returned)

-- by different pairs a vector becomes different ones
pub shifted-once : (bounds v : List ℕ) (p q : Places) → IsPair (length v) p → IsPair (length v) q → can_shift bounds v p ≡ true → RisesTo p q → shifted v p ≡ shifted v q → ⊥
shifted-once bounds v p q in_p in_q can h same = grind (arith, can_shift-says, shifted-other, shifted-low, shifted-high)

-- a unit that goes to a lower place, or comes from a higher one, makes a greater vector
pub returned-before : (bounds v : List ℕ) (p q : Places) → IsPair (length v) p → IsPair (length v) q → can_return bounds v q ≡ true → FallsTo p q → IsBefore (returned v q) (returned v p)
returned-before bounds v p q in_p in_q can (inl less) =
    before_at (returned v q) (returned v p) p.lower
    (λ i low.
    returned-other bounds v q in_q i (omega (arith, low, less, in_q.0)) (omega (arith, low, less))
    ∙ sym (returned-other bounds v p in_p i (omega (arith, low, in_p.0)) (omega (arith, low))))
    (omega (arith, returned-low bounds v p in_p, returned-other bounds v q in_q p.lower (omega (arith, less, in_q.0)) (omega (arith, less))))
    (omega (arith, length-returned bounds v q in_q, in_p.0, in_p.1)) (omega (arith, length-returned bounds v p in_p, in_p.0, in_p.1))
returned-before bounds v p q in_p in_q can (inr (level, less)) =
    let says = can_return-says bounds v q can in
    before_at (returned v q) (returned v p) q.higher
    (λ i low. elim (cases_eq i q.lower) [
      | inl same ↦ grind (arith, returned-low)
      | inr other ↦ grind (arith, returned-other)
    ])
    (omega (arith, says.0, returned-high bounds v q in_q, returned-other bounds v p in_p q.higher (omega (arith, less)) (omega (arith, level, in_q.0))))
    (omega (arith, length-returned bounds v q in_q, in_q.1)) (omega (arith, length-returned bounds v p in_p, in_q.1))
