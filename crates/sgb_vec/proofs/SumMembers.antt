-- Which vectors a bounded sum has, and that they rise lexicographically.
use Rattle.sgb_vec.proofs.Common.{◌≡◌, ℕ, ◌+◌, ◌≤◌, ◌↔◌, Bool, true, eqb, List, [], ◌∷◌, length, map, filter, sum, arith, Contains, list_all, zip, nat_le, eqb-true, eq-eqb, leb-true, le-leb, All-contains, All-contains_itself, All-filter, filter_passes, length_all_zip, AllPairs-filter}
use Rattle.sgb_vec.proofs.Lists.{Contains-passing}
use Rattle.sgb_vec.specs.Boxes.{box}
use Rattle.sgb_vec.specs.Sums.{BoundedSum, bounded_sums}
use Rattle.sgb_vec.specs.Lexicographic.{IsBefore, IsRising, IsBelow, IsWithin}
use Rattle.sgb_vec.proofs.BoxPlaces.{IsBelow-from_Contains, Contains-from_IsBelow, test_each_pair}
use Rattle.sgb_vec.specs.inner.Rising.{box_vectors_rise}

-- what a filter keeps is an element that passes
Contains-from_filter : {X : Type 0} (p : X → Bool) (xs : List X) (x : X) → Contains (filter p xs) x → Contains xs x × (p x ≡ true)
Contains-from_filter p xs x h = (
  All-contains (Contains xs) (filter p xs) x (All-filter p (Contains xs) xs (All-contains_itself xs)) h,
  All-contains (λ y. p y ≡ true) (filter p xs) x (filter_passes p xs) h,
)

-- below the bounds + 1 is within the bounds, and the other way round
within-from_below : (v bounds : List ℕ) → IsBelow v (map (λ b. b + 1) bounds) → IsWithin v bounds
within-from_below [] [] h = tt
within-from_below (x ∷ v) (b ∷ bounds) h = (omega (arith, h.0), within-from_below v bounds h.1)
within-from_below _ _ h = absurd h

below-from_within : (v bounds : List ℕ) → IsWithin v bounds → IsBelow v (map (λ b. b + 1) bounds)
below-from_within [] [] h = tt
below-from_within (x ∷ v) (b ∷ bounds) h = (omega (arith, h.0), below-from_within v bounds h.1)
below-from_within _ _ h = absurd h

-- a bounded sum has the vectors within its bounds that add to n
pub Contains-bounded_sums : (n : ℕ) (bounds v : List ℕ) → Contains (bounded_sums n bounds) v ↔ IsWithin v bounds × (sum v ≡ n)
unfolding bounded_sums
Contains-bounded_sums n bounds v =
    let sizes = map (λ b. b + 1) bounds in
    let adds : List ℕ → Bool = λ w. eqb (sum w) n in (
      λ h. let kept = Contains-from_filter adds (box sizes) v h in
          (within-from_below v bounds (IsBelow-from_Contains sizes v kept.0), eqb-true (sum v) n kept.1),
      λ h. Contains-passing adds (box sizes) v (eq-eqb (sum v) n h.1) (Contains-from_IsBelow sizes v (below-from_within v bounds h.0)),
    )

-- the same of a sum as it is kept, with its bounds as they are lent
pub members_mean : (s : BoundedSum) (bounds v : List ℕ) → bounds ≡ s.bounds → Contains (bounded_sums s.total s.bounds) v → IsWithin v bounds × (sum v ≡ s.total)
members_mean s bounds v same member = rw same ((Contains-bounded_sums s.total s.bounds v).0 member)

-- they rise lexicographically
pub bounded_sums-rise : (n : ℕ) (bounds : List ℕ) → IsRising (bounded_sums n bounds)
unfolding bounded_sums
bounded_sums-rise n bounds = AllPairs-filter IsBefore (λ v. eqb (sum v) n) (box (map (λ b. b + 1) bounds)) (box_vectors_rise (map (λ b. b + 1) bounds))

-- as many entries as bounds
pub IsWithin-length : (bounds v : List ℕ) → IsWithin v bounds → length v ≡ length bounds
IsWithin-length bounds v h = length_all_zip (λ x b. x ≤ b) v bounds h

-- the test of each pair, where there are as many entries as bounds
pub IsWithin-test : (bounds v : List ℕ) → length v ≡ length bounds → (list_all (λ p. nat_le p.0 p.1) (zip v bounds) ≡ true) ↔ IsWithin v bounds
IsWithin-test bounds v e = test_each_pair nat_le (λ x b. x ≤ b) (λ x b. (leb-true x b, le-leb x b)) bounds v e
