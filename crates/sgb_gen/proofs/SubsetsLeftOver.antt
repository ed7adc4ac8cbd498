-- What vectors leave of the bounds: pairs of vectors are as many as pairs of what they leave, with fewer elements in common.
use Rattle.std.proofs.Common.{◌≡◌, ℕ, zero, suc, ◌+◌, ◌-◌, ◌/◌, ◌^◌, ◌<◌, ◌≤◌, ◌==◌, min, Bool, true, false, cond, List, [], ◌∷◌, ◌++◌, map, filter, sum, refl, sym, ap, ap₂, ◌∙◌, inl, inr, arith}
use Rattle.std.specs.List.{flat_map, range_with_len}
use Rattle.std.proofs.Math.Nat.{div-div-eq-div-mul, div-eq_of_lt, pow-le-pow_right}
use Rattle.std.proofs.Math.Path.{fun_ext}
use Rattle.std.proofs.lemmas.Bool.{cases_lt}
use Rattle.std.proofs.lemmas.Bool.Decides.{nat_tests}
use Rattle.std.proofs.lemmas.Nat.{pow-add}
use Rattle.sgb_vec.specs.Boxes.{box}
use Rattle.sgb_vec.specs.Sums.{bounded_sums}
use Rattle.sgb_vec.proofs.SumSuccessors.{sum-cons}
use Rattle.sgb_gen.specs.Subsets.{common_size, is_wanted_size}
use Rattle.sgb_gen.specs.inner.SubsetsCounts.{wanted_among}
use Rattle.sgb_gen.specs.inner.SubsetsPairs.{added, pairs_among, pairs_of_sums}
use Rattle.sgb_gen.proofs.AddedSums.{added-first, added-same, added-zeros}
use Rattle.sgb_gen.proofs.SubsetsPairs.{added-both}

-- what a function adds to over these vectors
abbrev over : List (List ℕ) → (List ℕ → ℕ) → ℕ
over [] f = 0
over (v ∷ vs) f = f v + over vs f

-- over all pairs of vectors within these bounds, of what each one adds to and what they have in common
abbrev all_pairs : List ℕ → (ℕ → ℕ → ℕ → ℕ) → ℕ
all_pairs [] f = f 0 0 0
all_pairs (b ∷ bs) f = added (b + 1) (λ x. added (b + 1) (λ y. all_pairs bs (λ i j k. f (x + i) (y + j) (min x y + k))))

-- 1 for a pair that adds to these sums and has a wanted size in common
abbrev counted : ℕ → ℕ → ℕ → ℕ → ℕ → ℕ → ℕ → ℕ
counted sb c first second i j k = cond (i == first) (cond (j == second) (cond (is_wanted_size sb (k + c)) 1 0) 0) 0

-- over no vectors, over two lists, and over those with an entry in front
over-none : (vs : List (List ℕ)) → over vs (λ v. 0) ≡ 0
over-none [] = refl
over-none (v ∷ vs) = omega (arith, over-none vs)

over-append : (us vs : List (List ℕ)) (f : List ℕ → ℕ) → over (us ++ vs) f ≡ over us f + over vs f
over-append [] vs f = omega arith
over-append (u ∷ us) vs f = omega (arith, over-append us vs f)

over-front : (x : ℕ) (vs : List (List ℕ)) (f : List ℕ → ℕ) → over (map (λ v. x ∷ v) vs) f ≡ over vs (λ v. f (x ∷ v))
over-front x [] f = refl
over-front x (v ∷ vs) f = omega (arith, over-front x vs f)

over-range : (a n : ℕ) (vs : List (List ℕ)) (f : List ℕ → ℕ)
    → over (flat_map (λ x. map (λ v. x ∷ v) vs) (range_with_len a n)) f ≡ added n (λ x. over vs (λ v. f ((a + x) ∷ v)))
over-range a zero vs f = refl
over-range a (suc n) vs f =
    let at : ℕ → ℕ = λ x. over vs (λ v. f (x ∷ v)) in
    let first : at a ≡ at (a + 0) = ap at (omega arith) in
    let others : added n (λ i. at (a + 1 + i)) ≡ added n (λ i. at (a + suc i)) = added-same n _ _ (λ i less. ap at (omega arith)) in
    omega (
      arith,
      over-append (map (λ v. a ∷ v) vs) (flat_map (λ x. map (λ v. x ∷ v) vs) (range_with_len (a + 1) n)) f,
      over-front a vs f,
      over-range (a + 1) n vs f,
      first,
      others,
      added-first n (λ x. at (a + x)),
    )

-- all vectors within these bounds
abbrev all_within : List ℕ → List (List ℕ)
all_within bs = box (map (λ b. b + 1) bs)

over-within : (b : ℕ) (bs : List ℕ) (f : List ℕ → ℕ) → over (all_within (b ∷ bs)) f ≡ added (b + 1) (λ x. over (all_within bs) (λ v. f (x ∷ v)))
unfolding box
over-within b bs f =
    over-range 0 (b + 1) (all_within bs) f ∙ ap (added (b + 1)) (fun_ext (λ x. ap (λ y. over (all_within bs) (λ v. f (y ∷ v))) (omega arith)))

over-added : (vs : List (List ℕ)) (n : ℕ) (f : List ℕ → ℕ → ℕ) → over vs (λ v. added n (λ i. f v i)) ≡ added n (λ i. over vs (λ v. f v i))
over-added [] n f = sym (added-zeros n (λ i. 0) (λ i less. refl))
over-added (v ∷ vs) n f = omega (arith, over-added vs n f, added-both n (λ i. f v i) (λ i. over vs (λ w. f w i)))

-- what they add to and have in common, entry by entry
over-ended : (f : ℕ → ℕ → ℕ → ℕ) → over (all_within []) (λ u. over (all_within []) (λ v. f (sum u) (sum v) (common_size u v))) ≡ f 0 0 0
unfolding box
over-ended f = omega arith

over-pairs : (bs : List ℕ) (f : ℕ → ℕ → ℕ → ℕ) → over (all_within bs) (λ u. over (all_within bs) (λ v. f (sum u) (sum v) (common_size u v))) ≡ all_pairs bs f
over-pairs [] f = over-ended f
over-pairs (b ∷ bs) f =
    let g : List ℕ → List ℕ → ℕ = λ u v. f (sum u) (sum v) (common_size u v) in
    let vs = all_within bs in
    let entries : (x y : ℕ) (u v : List ℕ) → g (x ∷ u) (y ∷ v) ≡ f (x + sum u) (y + sum v) (min x y + common_size u v) =
    λ x y u v. rw (sum-cons x u, sum-cons y v) refl in
    let second : (x : ℕ) → over vs (λ u. over (all_within (b ∷ bs)) (λ v. g (x ∷ u) v)) ≡ added (b + 1) (λ y. all_pairs bs (λ i j k. f (x + i) (y + j) (min x y + k))) =
    λ x. ap (over vs) (fun_ext (λ u. over-within b bs (λ v. g (x ∷ u) v)))
    ∙ over-added vs (b + 1) (λ u y. over vs (λ v. g (x ∷ u) (y ∷ v)))
    ∙ ap (added (b + 1)) (fun_ext (λ y. ap (over vs) (fun_ext (λ u. ap (over vs) (fun_ext (λ v. entries x y u v)))) ∙ over-pairs bs (λ i j k. f (x + i) (y + j) (min x y + k)))) in
    over-within b bs (λ u. over (all_within (b ∷ bs)) (λ v. g u v)) ∙ ap (added (b + 1)) (fun_ext second)

-- those of two sums, each list by itself
wanted-over : (sb c s : ℕ) (u : List ℕ) (vs : List (List ℕ)) → wanted_among sb c u (filter (λ v. sum v == s) vs) ≡ over vs (λ v. cond (sum v == s) (cond (is_wanted_size sb (common_size u v + c)) 1 0) 0)
wanted-over sb c s u [] = refl
wanted-over sb c s u (v ∷ vs) = grind (arith, filter, cond, wanted-over sb c s u vs)

among-over : (sb c f s : ℕ) (us vs : List (List ℕ)) → pairs_among sb c (filter (λ u. sum u == f) us) (filter (λ v. sum v == s) vs) ≡ over us (λ u. over vs (λ v. counted sb c f s (sum u) (sum v) (common_size u v)))
among-over sb c f s [] vs = refl
among-over sb c f s (u ∷ us) vs = by (sum u == f) refl (among-over sb c f s us vs) where
  by : (t : Bool) → (sum u == f) ≡ t → pairs_among sb c (filter (λ w. sum w == f) us) (filter (λ v. sum v == s) vs) ≡ over us (λ w. over vs (λ v. counted sb c f s (sum w) (sum v) (common_size w v)))
      → pairs_among sb c (filter (λ w. sum w == f) (u ∷ us)) (filter (λ v. sum v == s) vs) ≡ over (u ∷ us) (λ w. over vs (λ v. counted sb c f s (sum w) (sum v) (common_size w v)))
  by true e rest = rw e (ap₂ (λ m n. m + n) (wanted-over sb c s u vs) rest)
  by false e rest = rw e (omega (arith, over-none vs, rest))

-- so pairs of two sums are counted over all pairs
sums-over : (sb f s c : ℕ) (bs : List ℕ) → pairs_of_sums sb bs f s c ≡ all_pairs bs (counted sb c f s)
unfolding bounded_sums
sums-over sb f s c bs = among-over sb c f s (all_within bs) (all_within bs) ∙ over-pairs bs (counted sb c f s)

-- a sum over numbers from the last one on
added-reversed : (n : ℕ) (f g : ℕ → ℕ) → ((i j : ℕ) → i + j + 1 ≡ n → f i ≡ g j) → added n f ≡ added n g
added-reversed zero f g same = refl
added-reversed (suc n) f g same =
    omega (arith, added-reversed n f (λ j. g (suc j)) (λ i j is. same i (suc j) (omega (arith, is))), same n 0 (omega arith), added-first n g)

-- over all pairs, and over all pairs of what is left of the bounds
over-left : (bs : List ℕ) (f g : ℕ → ℕ → ℕ → ℕ)
    → ((i j k s t c : ℕ) → i + s ≡ sum bs → j + t ≡ sum bs → k + s ≡ c + j → f i j k ≡ g s t c) → all_pairs bs f ≡ all_pairs bs g
over-left [] f g same = same 0 0 0 0 0 0 refl refl refl
over-left (b ∷ bs) f g same =
    added-reversed (b + 1) _ _ (λ x v first.
    added-reversed (b + 1) _ _ (λ y w second.
    over-left bs _ _ (λ i j k s t c ours theirs both.
    same (x + i) (y + j) (min x y + k) (v + s) (w + t) (min v w + c) (omega (arith, first, ours, sum-cons b bs)) (omega (arith, second, theirs, sum-cons b bs)) (omega (arith, first, second, both)))))

-- no bits past the last one
pub bits-past : (sb d : ℕ) → sb < 2 ^ 128 → 128 ≤ d → sb / 2 ^ d ≡ 0
bits-past sb d small past = div-eq_of_lt (omega (arith, small, pow-le-pow_right {n = 2} (omega arith) past))

-- sizes lesser by d are wanted
wanted-moved : (sb d c : ℕ) → sb < 2 ^ 128 → is_wanted_size (sb / 2 ^ d) c ≡ is_wanted_size sb (c + d)
wanted-moved sb d c small = elim (cases_lt (c + d) 128) [
  | inl within ↦ grind (arith, nat_tests, bits)
  | inr past ↦ grind (arith, nat_tests, bits, bits-past sb (c + d) small past)
] where
  bits : sb / 2 ^ d / 2 ^ c ≡ sb / 2 ^ (c + d)
  bits = div-div-eq-div-mul sb (2 ^ d) (2 ^ c) ∙ ap (λ n. sb / n) (sym (pow-add 2 d c)) ∙ ap (λ n. sb / 2 ^ n) (omega arith)

-- whether an entry is the sum, and whether what it leaves is what the sum leaves
left-is : (n m i s : ℕ) → n ≤ m → i + s ≡ m → (i == n) ≡ (s == m - n)
left-is n m i s within all = grind (arith, nat_tests)

-- pairs of the sum are counted just where what they leave is
counted-left : (sb n m i j k s t c : ℕ) → sb < 2 ^ 128 → n ≤ m → m ≤ n + n → i + s ≡ m → j + t ≡ m → k + s ≡ c + j
    → counted sb 0 n n i j k ≡ counted (sb / 2 ^ (n + n - m)) 0 (m - n) (m - n) s t c
counted-left sb n m i j k s t c small within most ours theirs both =
    rw (left-is n m i s within ours, left-is n m j t within theirs) (by (s == m - n) (t == m - n) refl refl) where
      by : (first second : Bool) → (s == m - n) ≡ first → (t == m - n) ≡ second
          → ◌≡◌ {A = ℕ} (cond first (cond second (cond (is_wanted_size sb (k + 0)) 1 0) 0) 0) (cond first (cond second (cond (is_wanted_size (sb / 2 ^ (n + n - m)) (c + 0)) 1 0) 0) 0)
      by false _ e f = refl
      by true false e f = refl
      by true true e f =
          ap (λ w. cond w 1 0) (ap (is_wanted_size sb) {x = k + 0} {y = c + 0 + (n + n - m)} (grind (arith, nat_tests)) ∙ sym (wanted-moved sb (n + n - m) (c + 0) small))

-- so pairs of one sum are as many as those of what their vectors leave
pub pairs-left : (sb : ℕ) (bounds : List ℕ) (n : ℕ) → sb < 2 ^ 128 → n ≤ sum bounds → sum bounds ≤ n + n
    → pairs_of_sums (sb / 2 ^ (n + n - sum bounds)) bounds (sum bounds - n) (sum bounds - n) 0 ≡ pairs_of_sums sb bounds n n 0
pairs-left sb bounds n small within most =
    let m = sum bounds in
    sums-over (sb / 2 ^ (n + n - m)) (m - n) (m - n) 0 bounds
    ∙ sym (over-left bounds (counted sb 0 n n) (counted (sb / 2 ^ (n + n - m)) 0 (m - n) (m - n)) (λ i j k s t c ours theirs both. counted-left sb n m i j k s t c small within most ours theirs both))
    ∙ sym (sums-over sb n n 0 bounds)
