-- The moves of a simplex counted: by pairs of places, as vectors of a smaller sum.
use Rattle.std.proofs.Common.{rules, ◌≡◌, ℕ, ◌+◌, ◌-◌, ◌*◌, ◌<◌, ◌≤◌, ℤ, pos, true, false, ◌⊎◌, Result, Ok, Err, List, [], ◌∷◌, ◌++◌, length, map, get_or, sum, refl, sym, ap, subst, ◌∙◌, inl, inr, arith, length-append}
use Rattle.std.specs.List.{All, AllPairs, Contains, filter, flat_map}
use Rattle.std.proofs.lemmas.Bool.{and_from, cases_lt, le-ltb}
use Rattle.std.proofs.lemmas.Bool.Decides.{Decides-ltb}
use Rattle.std.proofs.lemmas.List.{length-map, get_or_past, get_or-set_same, get_or-set_other}
use Rattle.std.proofs.lemmas.List.Elements.{All-contains_itself, All-filter, All-head, All-map, All-tail, Contains-get_or, filter_passes}
use Rattle.std.proofs.lemmas.List.Kept.{AllPairs-filter}
use Rattle.sgb_graph.specs.Made.{graph_described}
use Rattle.sgb_vec.specs.Lexicographic.{IsBefore}
use Rattle.sgb_vec.specs.Sums.{BoundedSum, bounded_sums, has_great_count, sum_of}
use Rattle.sgb_gen.specs.inner.KeptCounts.{count_of_sum}
use Rattle.sgb_vec.specs.Limits.{most_vertices}
use Rattle.sgb_vec.specs.declared.panics.Panic.{Panic}
use Rattle.sgb_vec.specs.declared.panics.Panic.TheVariants.{NoRoom}
use Rattle.sgb_vec.proofs.Lists.{AllPairs-follows, AllPairs-map, Contains-image, Contains-passing, filter-none, never_true, passing_first}
use Rattle.sgb_vec.proofs.SumMembers.{Contains-bounded_sums, IsWithin-length, bounded_sums-rise}
use Rattle.sgb_gen.specs.VectorGraphs.{HasUnitToMove, described_by, family_graph}
use Rattle.sgb_gen.specs.Simplexes.{SimplexData, Places, pairs_of_places, moves_to, moves_of_simplex, simplex_vector_graph, simplex_vectors}
use Rattle.sgb_gen.specs.inner.Simplexes.{can_shift, moves_by}
use Rattle.sgb_gen.specs.inner.SimplexCounts.{less_at, lowered, shifts_count, shifts_by}
use Rattle.sgb_gen.proofs.BoardCountsBoards.{arcs-directed, arcs-undirected}
use Rattle.sgb_gen.proofs.LoweredBounds.{before-less_at, within-less_both, within-less, more_at, less-more_at, within-more, within-more_both, sum-less_at, none_great-lowered}
use Rattle.sgb_gen.proofs.OrderedLists.{rising_same}
use Rattle.sgb_gen.proofs.ShiftedEntries.{can_shift-says}
use Rattle.sgb_gen.proofs.ShiftLemmas.{entry_within}
use Rattle.sgb_gen.proofs.SimplexEvents.{length_in_sum}

-- ---- one pair of places

-- a unit that can go
can_shift-from : (bounds x : List ℕ) (at : Places) → 0 < get_or x at.lower 0 → get_or x at.higher 0 < get_or bounds at.higher 0 → can_shift bounds x at ≡ true
can_shift-from bounds x at unit room = grind (arith, and_from, Decides-ltb)

module _ (s : BoundedSum) (at : Places) (order : at.lower < at.higher) where
  -- the vectors from which a unit can go
  abbrev sources : List (List ℕ)
  sources = filter (λ x. can_shift s.bounds x at) (bounded_sums s.total s.bounds)

  all_can : All (λ x. can_shift s.bounds x at ≡ true) sources
  all_can = filter_passes (λ x. can_shift s.bounds x at) (bounded_sums s.total s.bounds)

  all_there : All (Contains (bounded_sums s.total s.bounds)) sources
  all_there = All-filter (λ x. can_shift s.bounds x at) (Contains (bounded_sums s.total s.bounds)) (bounded_sums s.total s.bounds) (All-contains_itself (bounded_sums s.total s.bounds))

  -- with one less at the lower place they are vectors of the smaller sum
  lowered_there : (x : List ℕ) → can_shift s.bounds x at ≡ true → Contains (bounded_sums s.total s.bounds) x → Contains (bounded_sums (s.total - 1) (lowered s.bounds at)) (less_at x at.lower)
  lowered_there x can h =
      let says = can_shift-says s.bounds x at can in
      let is = (Contains-bounded_sums s.total s.bounds x).0 h in
      let low = within-less_both x s.bounds at.lower is.0 in
      let entry = get_or-set_other x at.lower at.higher (get_or x at.lower 0 - 1) 0 (omega (arith, order)) in
      let bound = get_or-set_other s.bounds at.lower at.higher (get_or s.bounds at.lower 0 - 1) 0 (omega (arith, order)) in
      let room : get_or (less_at x at.lower) at.higher 0 < get_or (less_at s.bounds at.lower) at.higher 0 = omega (arith, entry, bound, says.1) in
      (Contains-bounded_sums (s.total - 1) (lowered s.bounds at) (less_at x at.lower)).1 (
        within-less (less_at x at.lower) (less_at s.bounds at.lower) at.higher room low,
        omega (arith, sum-less_at x at.lower says.0, is.1),
      )

  -- and each of these comes from one
  raised_there : (y : List ℕ) → 0 < s.total → 0 < get_or s.bounds at.lower 0 → 0 < get_or s.bounds at.higher 0 → Contains (bounded_sums (s.total - 1) (lowered s.bounds at)) y → Contains sources (more_at y at.lower)
  raised_there y some low high h =
      let is = (Contains-bounded_sums (s.total - 1) (lowered s.bounds at) y).0 h in
      let bound = get_or-set_other s.bounds at.lower at.higher (get_or s.bounds at.lower 0 - 1) 0 (omega (arith, order)) in
      let first = within-more y (less_at s.bounds at.lower) at.higher (omega (arith, bound, high)) is.0 in
      let second = within-more y s.bounds at.lower low first.0 in
      let x = more_at y at.lower in
      let back : less_at x at.lower ≡ y = less-more_at y at.lower in
      let in_y : at.lower < length y = elim (cases_lt at.lower (length y)) [
        | inl within ↦ within
        | inr past ↦ absurd (omega (arith, low, get_or_past s.bounds at.lower 0 (omega (arith, past, IsWithin-length s.bounds y second.0))))
      ] in
      let unit : get_or x at.lower 0 ≡ get_or y at.lower 0 + 1 = get_or-set_same y at.lower (get_or y at.lower 0 + 1) 0 in_y in
      let entry : get_or x at.higher 0 ≡ get_or y at.higher 0 = get_or-set_other y at.lower at.higher (get_or y at.lower 0 + 1) 0 (omega (arith, order)) in
      let adds : sum (less_at x at.lower) + 1 ≡ sum x = sum-less_at x at.lower (omega (arith, unit)) in
      Contains-passing (λ v. can_shift s.bounds v at) (bounded_sums s.total s.bounds) x
      (can_shift-from s.bounds x at (omega (arith, unit)) (omega (arith, entry, first.1, bound)))
      ((Contains-bounded_sums s.total s.bounds x).1 (within-more_both y s.bounds at.lower second.1 second.0, omega (arith, adds, ap sum back, is.1, some)))

  -- they are in order
  lowered_rise : AllPairs IsBefore (map (λ x. less_at x at.lower) sources)
  lowered_rise =
      AllPairs-map IsBefore (λ x. less_at x at.lower) sources
      (AllPairs-follows (λ x. 0 < get_or x at.lower 0) IsBefore (λ v w. IsBefore (less_at v at.lower) (less_at w at.lower)) sources
      (λ v w hv hw before. before-less_at v w at.lower hv hw before)
      (λ k d within. (can_shift-says s.bounds (get_or sources k d) at (all_can k d within)).0)
      (AllPairs-filter IsBefore (λ x. can_shift s.bounds x at) (bounded_sums s.total s.bounds) (bounded_sums-rise s.total s.bounds)))

  -- so there are as many
  pub shifts-lowered : 0 < s.total → 0 < get_or s.bounds at.lower 0 → 0 < get_or s.bounds at.higher 0 → shifts_count s at ≡ count_of_sum (s.total - 1) (lowered s.bounds at)
  shifts-lowered some low high =
      let less : List ℕ → List ℕ = λ x. less_at x at.lower in
      let others = bounded_sums (s.total - 1) (lowered s.bounds at) in
      let same : map less sources ≡ others =
      rising_same (map less sources) others lowered_rise (bounded_sums-rise (s.total - 1) (lowered s.bounds at))
      (All-map (Contains others) less sources (λ k d within. lowered_there (get_or sources k d) (all_can k d within) (all_there k d within)))
      (λ k d within.
      let y = get_or others k d in
      let image = Contains-image less sources (more_at y at.lower) (raised_there y some low high (Contains-get_or others k d within)) in
      subst (Contains (map less sources)) (less-more_at y at.lower) image) in
      sym (length-map sources less) ∙ ap length same

  -- no unit can go where there is none, or no bound for it
  cannot : (x : List ℕ) → (s.total ≡ 0) ⊎ (get_or s.bounds at.lower 0 ≡ 0) ⊎ (get_or s.bounds at.higher 0 ≡ 0) → Contains (bounded_sums s.total s.bounds) x → can_shift s.bounds x at ≡ true → ⊥
  cannot x none h can =
      let says = can_shift-says s.bounds x at can in
      let is = (Contains-bounded_sums s.total s.bounds x).0 h in
      let adds = sum-less_at x at.lower says.0 in
      grind (arith, entry_within, says, is, adds)

  pub shifts-none : (s.total ≡ 0) ⊎ (get_or s.bounds at.lower 0 ≡ 0) ⊎ (get_or s.bounds at.higher 0 ≡ 0) → 0 ≡ shifts_count s at
  shifts-none none = search (rules, filter-none, never_true, cannot, Contains-get_or)

-- ---- all pairs

pub shifts_by-append : (s : BoundedSum) (ps qs : List Places) → shifts_by s (ps ++ qs) ≡ shifts_by s ps + shifts_by s qs
shifts_by-append s [] qs = omega arith
shifts_by-append s (at ∷ ps) qs = omega (arith, shifts_by-append s ps qs)

-- the moves to all of some vectors, by one pair and by others
moves_parted : (bounds : List ℕ) (at : Places) (ps : List Places) (xs : List (List ℕ)) → length (flat_map (λ x. moves_by bounds x (at ∷ ps)) xs) ≡ length (filter (λ x. can_shift bounds x at) xs) + length (flat_map (λ x. moves_by bounds x ps) xs)
moves_parted bounds at ps [] = refl
moves_parted bounds at ps (x ∷ xs) = grind (arith, length-append, passing_first, length-map, moves_parted bounds at ps xs)

moves_none : (bounds : List ℕ) (xs : List (List ℕ)) → length (flat_map (λ x. moves_by bounds x []) xs) ≡ 0
moves_none bounds [] = refl
moves_none bounds (x ∷ xs) = moves_none bounds xs

pub moves-by_pairs : (s : BoundedSum) (ps : List Places) → length (flat_map (λ x. moves_by s.bounds x ps) (bounded_sums s.total s.bounds)) ≡ shifts_by s ps
moves-by_pairs s [] = moves_none s.bounds (bounded_sums s.total s.bounds)
moves-by_pairs s (at ∷ ps) = moves_parted s.bounds at ps (bounded_sums s.total s.bounds) ∙ ap (λ n. shifts_count s at + n) (moves-by_pairs s ps)

-- vectors of one length
moves_same : (bounds : List ℕ) (n : ℕ) (xs : List (List ℕ)) → All (λ x. length x ≡ n) xs → flat_map (moves_to bounds) xs ≡ flat_map (λ x. moves_by bounds x (pairs_of_places n)) xs
moves_same bounds n [] long = refl
moves_same bounds n (x ∷ xs) long =
    cc (All-head (λ y. length y ≡ n) x xs long, moves_same bounds n xs (All-tail (λ y. length y ≡ n) x xs long))

empty : {X : Type 0} (xs : List X) → length xs ≡ 0 → xs ≡ []
empty [] none = refl
empty (x ∷ xs) none = absurd (omega (arith, none))

-- the moves of a simplex
pub moves-counted : (s : SimplexData) → length (moves_of_simplex s) ≡ shifts_by s.sum (pairs_of_places (length s.sum.bounds))
unfolding moves_of_simplex
moves-counted s =
    let vectors = simplex_vectors s in
    ap length (moves_same s.sum.bounds (length s.sum.bounds) vectors (λ k d within. length_in_sum s (get_or vectors k d) (Contains-get_or vectors k d within)))
    ∙ moves-by_pairs s.sum (pairs_of_places (length s.sum.bounds))

-- without vectors there are none
pub moves-of_none : (s : SimplexData) → length (simplex_vectors s) ≡ 0 → length (moves_of_simplex s) ≡ 0
unfolding moves_of_simplex
moves-of_none s none = rw (empty (simplex_vectors s) none) refl

-- what memory may be wanted for has a unit that might go to another entry
pub unit_to_move : (s : SimplexData) → 0 < s.sum.total → 1 < length s.sum.bounds → 0 < length (simplex_vectors s) → HasUnitToMove (simplex_vector_graph s)
unit_to_move s unit pair some =
    let v = get_or (simplex_vectors s) 0 [] in
    let member : Contains (simplex_vectors s) v = Contains-get_or (simplex_vectors s) 0 [] some in
    let adds : sum v ≡ s.sum.total = ((Contains-bounded_sums s.sum.total s.sum.bounds v).0 member).1 in
    (v, member, omega (arith, length_in_sum s v member, pair), omega (arith, adds, unit))

-- ---- the arcs of the graph

pub arcs-of-directed : (s : SimplexData) → s.directed ≡ true → (graph_described (described_by (simplex_vector_graph s))).m ≡ length (moves_of_simplex s)
unfolding family_graph
arcs-of-directed s e = grind (arith, arcs-directed, length-map)

pub arcs-of-undirected : (s : SimplexData) → s.directed ≡ false → (graph_described (described_by (simplex_vector_graph s))).m ≡ length (moves_of_simplex s) * 2
unfolding family_graph
arcs-of-undirected s e = grind (arith, arcs-undirected, length-map)

-- ---- what the code finds

-- equal values
abbrev found : BoundedSum → Result BoundedSum Panic
found s = Ok s

ok_same : (s t : BoundedSum) → found s ≡ found t → s ≡ t
ok_same s t e = cc e

-- so what is made of it is it, but for want of memory
pub family_lowered : (s : BoundedSum) (at : Places) (z : ℤ) (bounds : List ℕ) (r : Result BoundedSum Panic) → s.total ≤ most_vertices → has_great_count s.total s.bounds ≡ false → z ≡ pos (s.total - 1) → bounds ≡ lowered s.bounds at
    → (r ≡ sum_of z bounds) ⊎ (r ≡ Err NoRoom) → (r ≡ Ok (record { total = s.total - 1; bounds = lowered s.bounds at })) ⊎ (r ≡ Err NoRoom)
family_lowered s at z bounds r small none total lower h = grind (arith, le-ltb, none_great-lowered)

-- and has as many vectors
pub size_lowered : (s : BoundedSum) (at : Places) (r : Result BoundedSum Panic) (family : BoundedSum) → at.lower < at.higher → 0 < s.total → 0 < get_or s.bounds at.lower 0 → 0 < get_or s.bounds at.higher 0
    → r ≡ Ok family → (r ≡ Ok (record { total = s.total - 1; bounds = lowered s.bounds at })) ⊎ (r ≡ Err NoRoom) → length (bounded_sums family.total family.bounds) ≡ shifts_count s at
size_lowered s at r family order some low high is h = grind (arith, ok_same, shifts-lowered)

-- what is refused is refused for want of memory
pub room_alone : (r : Result BoundedSum Panic) (made : BoundedSum) (e : Panic) → r ≡ Err e → (r ≡ Ok made) ⊎ (r ≡ Err NoRoom) → e ≡ NoRoom
room_alone r made e is h = grind (arith)
