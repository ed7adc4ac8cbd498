-- Neighbours in a list that rises strictly: the least element is the first, the least above one comes right after it,
-- and one that nothing is above is the last. No element stands at two places.
use Rattle.sgb_vec.proofs.Common.{rules, ◌≡◌, ℕ, zero, suc, ◌+◌, ◌-◌, ◌<◌, List, length, get_or, refl, sym, subst, inl, inr, arith, AllPairs, Contains, slice_get, Some, cases_order, Contains-get_or, slice_get_within, slice_get_read, get_or_from_slice_get}

-- no two elements are each before the other
abbrev pub IsAsymmetric : {X : Type 0} → (X → X → Type 0) → Type 0
IsAsymmetric {X} R = (x y : X) → R x y → R y x → ⊥

-- of two elements of a rising list, the one that is before the other stands at a smaller place
pub place-rises : {X : Type 0} (R : X → X → Type 0) (xs : List X) (i j : ℕ) (d : X) → IsAsymmetric R → AllPairs R xs → i < length xs → R (get_or xs i d) (get_or xs j d) → i < j
place-rises R xs i j d asym rises within before = grind (arith, cases_order)

-- an element that no other is before stands first
pub slice_get-least : {X : Type 0} (R : X → X → Type 0) (xs : List X) (w : X) → AllPairs R xs → Contains xs w → ((u : X) → Contains xs u → R u w → ⊥) → slice_get xs 0 ≡ Some w
slice_get-least R xs w rises (zero, within, at) none = slice_get_read xs (length xs) 0 w refl within (sym at)
slice_get-least R xs w rises (suc j, within, at) none =
    let first_within : 0 < length xs = omega arith in
    absurd (none (get_or xs 0 w) (Contains-get_or xs 0 w first_within) (subst (λ y. R (get_or xs 0 w) y) at (rises 0 (suc j) w (omega arith) within)))

-- no element is before the first
pub none_before_first : {X : Type 0} (R : X → X → Type 0) (xs : List X) (w u : X) → IsAsymmetric R → AllPairs R xs → slice_get xs 0 ≡ Some w → Contains xs u → R u w → ⊥
none_before_first R xs w u asym rises first (j, within, at) before = grind (arith, get_or_from_slice_get, place-rises)

-- the least element above one comes right after it
pub slice_get-nearest : {X : Type 0} (R : X → X → Type 0) (xs : List X) (v w : X) (i : ℕ) → IsAsymmetric R → AllPairs R xs → slice_get xs i ≡ Some v → Contains xs w → R v w → ((u : X) → Contains xs u → R v u → R u w → ⊥) → slice_get xs (i + 1) ≡ Some w
slice_get-nearest R xs v w i asym rises here (j, within, at) before nearest =
    let at_i : get_or xs i w ≡ v = get_or_from_slice_get xs i v w here in
    let less : i < j = place-rises R xs i j w asym rises (slice_get_within xs i v here) (rw (at_i, at) before) in
    elim (cases_order j (i + 1)) [
      | inl same ↦ slice_get_read xs (length xs) (i + 1) w refl (omega arith) (rw same at (sym at))
      | inr (inl low) ↦ absurd (omega arith)
      | inr (inr more) ↦
          let u = get_or xs (i + 1) w in
          let member : Contains xs u = Contains-get_or xs (i + 1) w (omega arith) in
          let above : R v u = subst (λ y. R y u) at_i (rises i (i + 1) w (omega arith) (omega arith)) in
          let below : R u w = subst (λ y. R u y) at (rises (i + 1) j w more within) in
          absurd (nearest u member above below)
    ]

-- an element that none is above stands last
pub length-greatest : {X : Type 0} (R : X → X → Type 0) (xs : List X) (v : X) (i : ℕ) → AllPairs R xs → slice_get xs i ≡ Some v → ((u : X) → Contains xs u → R v u → ⊥) → length xs ≡ i + 1
length-greatest R xs v i rises here none =
    let within = slice_get_within xs i v here in
    elim (cases_order (length xs) (i + 1)) [
      | inl same ↦ same
      | inr (inl low) ↦ absurd (omega arith)
      | inr (inr more) ↦
          let at_i : get_or xs i v ≡ v = get_or_from_slice_get xs i v v here in
          let u = get_or xs (i + 1) v in
          absurd (none u (Contains-get_or xs (i + 1) v more) (subst (λ y. R y u) at_i (rises i (i + 1) v (omega arith) more)))
    ]

-- no element is above the last
pub none_above_last : {X : Type 0} (R : X → X → Type 0) (xs : List X) (v u : X) → IsAsymmetric R → AllPairs R xs → Contains xs v → ((i : ℕ) → slice_get xs i ≡ Some v → length xs ≡ i + 1) → Contains xs u → R v u → ⊥
none_above_last R xs v u asym rises (i, i_within, at_i) last (j, j_within, at_j) before =
    let here : get_or xs i u ≡ v = get_or_from_slice_get xs i v u (slice_get_read xs (length xs) i v refl i_within (sym at_i)) in
    grind (arith, slice_get_read)

-- no element stands at two places
pub place-once : {X : Type 0} (R : X → X → Type 0) (xs : List X) (v : X) (i j : ℕ) → IsAsymmetric R → AllPairs R xs → slice_get xs i ≡ Some v → slice_get xs j ≡ Some v → i ≡ j
place-once R xs v i j asym rises at_i at_j =
    let here : get_or xs i v ≡ v = get_or_from_slice_get xs i v v at_i in
    let there : get_or xs j v ≡ v = get_or_from_slice_get xs j v v at_j in
    elim (cases_order i j) [
      | inl same ↦ same
      | inr (inl less) ↦
          let before : R v v = rw (here, there) at (rises i j v less (slice_get_within xs j v at_j)) in
          absurd (asym v v before before)
      | inr (inr more) ↦
          let before : R v v = rw (here, there) at (rises j i v more (slice_get_within xs i v at_i)) in
          absurd (asym v v before before)
    ]

-- where v comes right after w, w comes right before v
pub slice_get-previous : {X : Type 0} (R : X → X → Type 0) (xs : List X) (v w : X) (i : ℕ) → IsAsymmetric R → AllPairs R xs → Contains xs w → ((j : ℕ) → slice_get xs j ≡ Some w → slice_get xs (j + 1) ≡ Some v) → slice_get xs i ≡ Some v → (0 < i) × (slice_get xs (i - 1) ≡ Some w)
slice_get-previous R xs v w i asym rises (j, within, at) next here =
    let at_j : slice_get xs j ≡ Some w = slice_get_read xs (length xs) j w refl within (sym at) in
    let same : i ≡ j + 1 = place-once R xs v i (j + 1) asym rises here (next j at_j) in
    grind arith

-- the element that ends the list at each of its places is the one at the end
pub slice_get-end : {X : Type 0} (xs : List X) (v : X) → Contains xs v → ((i : ℕ) → slice_get xs i ≡ Some v → length xs ≡ i + 1) → slice_get xs (length xs - 1) ≡ Some v
slice_get-end xs v (i, within, at) last = search (rules, slice_get_read)

-- and the one at the end ends the list at each of its places
pub length-end : {X : Type 0} (R : X → X → Type 0) (xs : List X) (v : X) (i : ℕ) → IsAsymmetric R → AllPairs R xs → slice_get xs (length xs - 1) ≡ Some v → slice_get xs i ≡ Some v → length xs ≡ i + 1
length-end R xs v i asym rises end here =
    omega (arith, place-once R xs v i (length xs - 1) asym rises here end, slice_get_within xs i v here)
