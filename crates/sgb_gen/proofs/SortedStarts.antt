-- The starts of the moves that touch a vector, sorted.
use Rattle.std.proofs.Common.{◌≡◌, ℕ, suc, ◌+◌, ◌<◌, ℤ, Bool, true, false, not, ◌&&◌, List, [], ◌∷◌, length, get_or, sym, ap, ap₂, subst, ◌∙◌, true≢false, arith, rules}
use Rattle.std.specs.Prelude.{◌==◌}
use Rattle.std.specs.List.{All, AllPairs, Contains, IsDistinct, filter}
use Rattle.std.specs.List.Sorted.{IsPermutation, IsSorted}
use Rattle.std.specs.Ordering.{is_lt}
use Rattle.std.proofs.Math.Bool.{and-false}
use Rattle.std.proofs.lemmas.Bool.{cases_eq, cases_lt, eq-eqb, ne_eqb, not-true}
use Rattle.std.proofs.lemmas.List.Elements.{All-from_recursion, All-map, All-nil, All-cons, All-filter, All-weaker, filter_passes, recursion_from_All}
use Rattle.std.proofs.lemmas.List.Kept.{AllPairs-cons, AllPairs-filter}
use Rattle.std.proofs.lemmas.List.Sorted.{All-permutation, Contains-permutation}
use Rattle.std.proofs.lemmas.Map.Keys.{IsDistinct-IsPermutation}
use Rattle.sgb_vec.specs.Boxes.{box}
use Rattle.sgb_gen.specs.Boards.{BoardData}
use Rattle.sgb_gen.specs.inner.LocalBoards.{other_starts, own_starts, starts_of}
use Rattle.sgb_moves.specs.inner.Starts.{pair_cmp}
use Rattle.sgb_moves.specs.Moves.{moves_from, opposite, sides_of}
use Rattle.sgb_moves.specs.VectorMoves.{Move}
use Rattle.sgb_gen.specs.VectorGraphs.{vertex_among}
use Rattle.sgb_gen.proofs.MovesInOrder.{lengths_rise}
use Rattle.sgb_vec.proofs.Lists.{AllPairs-append, AllPairs-first, AllPairs-follows, AllPairs-map, AllPairs-none, AllPairs-others, Contains-passing, eqb-turned}
use Rattle.sgb_gen.proofs.OrderedLists.{before_trans}
use Rattle.sgb_gen.proofs.TouchingMoves.{IsEarlier, first_less, in_order_same, pair, same_in_order, second_less, starts_touch, touching, touching_found, touching_rise}

-- two pairs are the same
abbrev same_pair : ℕ × ℕ → ℕ × ℕ → Bool
same_pair p q = (p.0 == q.0) && (p.1 == q.1)

same_turned : (p q : ℕ × ℕ) → same_pair p q ≡ same_pair q p
same_turned p q = ap₂ (λ c d. c && d) (eqb-turned p.0 q.0) (eqb-turned p.1 q.1)

-- pairs of which no two are the same, by recursion and by places
distinct_of : (ps : List (ℕ × ℕ)) → AllPairs (λ p q. same_pair p q ≡ false) ps → IsDistinct same_pair ps
unfolding IsDistinct
distinct_of [] h = tt
distinct_of (p ∷ ps) h =
    (recursion_from_All (λ q. same_pair p q ≡ false) ps (AllPairs-first (λ a b. same_pair a b ≡ false) p ps h), distinct_of ps (AllPairs-others (λ a b. same_pair a b ≡ false) p ps h))

pairs_of_distinct : (ps : List (ℕ × ℕ)) → IsDistinct same_pair ps → AllPairs (λ p q. same_pair p q ≡ false) ps
unfolding IsDistinct
pairs_of_distinct [] h = AllPairs-none (λ p q. same_pair p q ≡ false)
pairs_of_distinct (p ∷ ps) h =
    AllPairs-cons (λ a b. same_pair a b ≡ false) p ps (All-from_recursion (λ q. same_pair p q ≡ false) ps h.0) (pairs_of_distinct ps h.1)

-- ---- what rises from each to the next rises

rise_by_next : (ps : List (ℕ × ℕ)) → ((k : ℕ) (d : ℕ × ℕ) → suc k < length ps → IsEarlier (get_or ps k d) (get_or ps (suc k) d)) → AllPairs IsEarlier ps
rise_by_next [] next = AllPairs-none IsEarlier
rise_by_next (p ∷ []) next = AllPairs-cons IsEarlier p [] (All-nil (IsEarlier p)) (AllPairs-none IsEarlier)
rise_by_next (p ∷ q ∷ ps) next =
    let rest : AllPairs IsEarlier (q ∷ ps) = rise_by_next (q ∷ ps) (λ k d h. next (suc k) d (omega (arith, h))) in
    let first : IsEarlier p q = next 0 p (omega arith) in
    let later : All (IsEarlier q) ps = AllPairs-first IsEarlier q ps rest in
    search (rules, AllPairs-cons, IsEarlier, All-cons, All-weaker, before_trans, pair, rest, first, later)

-- a pair that is not less than another, nor the same, comes after it
not_less : (p q : ℕ × ℕ) → is_lt (pair_cmp q p) ≡ false → same_pair p q ≡ false → IsEarlier p q
not_less p q sorted other = grind (arith, cases_lt, first_less, cases_eq, pair_cmp, second_less, eq-eqb)

-- pairs that are sorted, no two the same, rise
sorted_rise : (ps : List (ℕ × ℕ)) → IsSorted pair_cmp ps → AllPairs (λ p q. same_pair p q ≡ false) ps → AllPairs IsEarlier ps
sorted_rise ps sorted distinct =
    rise_by_next ps
    (λ k d h.
    let step : k + 1 ≡ suc k = omega arith in
    let within : k + 1 < length ps = omega (arith, h) in
    subst (λ j. IsEarlier (get_or ps k d) (get_or ps j d)) step
    (not_less (get_or ps k d) (get_or ps (k + 1) d) (sorted k d (omega arith) within) (distinct k (k + 1) d (omega arith) within)))

-- ---- the starts

module _ (b : BoardData) (t : List ℤ) (x : List ℕ) (there : Contains (box b.sizes) x) where
  -- no two starts are the same
  starts_distinct : AllPairs (λ p q. same_pair p q ≡ false) (starts_of (sides_of b.sizes b.wrap) b.piece (box b.sizes) x t)
  starts_distinct =
      let sides = sides_of b.sizes b.wrap in
      let vectors = box b.sizes in
      let u = vertex_among vectors x in
      let Differ : ℕ × ℕ → ℕ × ℕ → Type 0 = λ p q. same_pair p q ≡ false in
      let moves = moves_from sides b.piece x t in
      let back = moves_from sides b.piece x (opposite t) in
      let far : Move → Bool = λ m. not (vertex_among vectors m.to == u) in
      let own : AllPairs Differ (own_starts u moves) = search (rules, AllPairs-map, AllPairs-follows, lens_differ, lengths_rise) in
      let others : AllPairs Differ (other_starts vectors u back) = search (rules, AllPairs-map, AllPairs-filter, AllPairs-follows, lens_differ, lengths_rise, vertex_among, opposite) in
      AllPairs-append Differ (own_starts u moves) (other_starts vectors u back) own others
      (All-map (λ p. All (Differ p) (other_starts vectors u back)) (λ m. (u, m.len)) moves
      (λ k d h.
      All-map (Differ (u, (get_or moves k d).len)) (λ n. (vertex_among vectors n.to, n.len)) (filter far back)
      (λ i e inside. starts_differ u (vertex_among vectors (get_or (filter far back) i e).to) (get_or moves k d).len (get_or (filter far back) i e).len (filter_passes far back i e inside))))
    where
      lens_differ : (v w l m : ℕ) → l < m → same_pair (v, l) (w, m) ≡ false
      lens_differ v w l m less = ap (λ c. (v == w) && c) (ne_eqb l m (λ e. omega (arith, less, e))) ∙ and-false (v == w)

      starts_differ : (u v l m : ℕ) → not (v == u) ≡ true → same_pair (u, l) (v, m) ≡ false
      starts_differ u v l m passes = ap (λ c. c && (l == m)) (eqb-turned u v ∙ not-true (v == u) passes)

  -- in an order in which they rise, they are those of the touching moves
  pub rising_starts : (ps : List (ℕ × ℕ)) → IsPermutation (starts_of (sides_of b.sizes b.wrap) b.piece (box b.sizes) x t) ps → AllPairs IsEarlier ps → ps ≡ touching b t x there
  rising_starts ps changed rise = search (rules, in_order_same, All-permutation, touching, starts_touch, All-weaker, Contains-permutation, touching_found, sides_of)

  -- those that pass, in an order in which they rise, are the touching ones that pass
  passing_rising : (p : ℕ × ℕ → Bool) (ps : List (ℕ × ℕ)) → IsPermutation (filter p (starts_of (sides_of b.sizes b.wrap) b.piece (box b.sizes) x t)) ps → AllPairs IsEarlier ps → ps ≡ filter p (touching b t x there)
  passing_rising p ps changed rise =
      let starts = starts_of (sides_of b.sizes b.wrap) b.piece (box b.sizes) x t in
      let moves = touching b t x there in
      same_in_order ps (filter p moves) rise (AllPairs-filter IsEarlier p moves (touching_rise b t x there))
      (All-permutation (Contains (filter p moves)) (filter p starts) ps changed
      (λ k d within. Contains-passing p moves (get_or (filter p starts) k d) (filter_passes p starts k d within) (All-filter p (Contains moves) starts (starts_touch b t x there) k d within)))
      (λ k d within.
      Contains-permutation (filter p starts) ps (get_or (filter p moves) k d) changed
      (Contains-passing p starts (get_or (filter p moves) k d) (filter_passes p moves k d within) (All-filter p (Contains starts) moves (touching_found b t x there) k d within)))

  -- so they are where they are sorted
  pub passing_sorted : (p : ℕ × ℕ → Bool) (ps : List (ℕ × ℕ)) → IsPermutation (filter p (starts_of (sides_of b.sizes b.wrap) b.piece (box b.sizes) x t)) ps → IsSorted pair_cmp ps → ps ≡ filter p (touching b t x there)
  passing_sorted p ps changed sorted =
      let some = filter p (starts_of (sides_of b.sizes b.wrap) b.piece (box b.sizes) x t) in
      let apart = AllPairs-filter (λ q r. same_pair q r ≡ false) p (starts_of (sides_of b.sizes b.wrap) b.piece (box b.sizes) x t) starts_distinct in
      let distinct = pairs_of_distinct ps (IsDistinct-IsPermutation same_pair same_turned some ps changed (distinct_of some apart)) in
      passing_rising p ps changed (sorted_rise ps sorted distinct)

  -- of those of one vertex and one length there is one at most
  pub passing_one : (p : ℕ × ℕ → Bool) (v l : ℕ) → ((s : ℕ × ℕ) → p s ≡ true → (s.0 ≡ v) × (s.1 ≡ l)) → 1 < length (filter p (starts_of (sides_of b.sizes b.wrap) b.piece (box b.sizes) x t)) → ⊥
  passing_one p v l one many =
      let starts = starts_of (sides_of b.sizes b.wrap) b.piece (box b.sizes) x t in
      let some = filter p starts in
      let first = get_or some 0 (0, 0) in
      let second = get_or some 1 (0, 0) in
      let is_first = one first (filter_passes p starts 0 (0, 0) (omega (arith, many))) in
      let is_second = one second (filter_passes p starts 1 (0, 0) many) in
      let other : same_pair first second ≡ false = AllPairs-filter (λ q r. same_pair q r ≡ false) p starts starts_distinct 0 1 (0, 0) (omega arith) many in
      true≢false (sym (ap₂ (λ c d. c && d) (eq-eqb first.0 second.0 (is_first.0 ∙ sym is_second.0)) (eq-eqb first.1 second.1 (is_first.1 ∙ sym is_second.1))) ∙ other)
