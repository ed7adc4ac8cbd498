-- The moves of subsets counted: by the descent from each vector down to the first one.
use Rattle.std.proofs.Common.{◌≡◌, ℕ, ◌+◌, ◌-◌, ◌*◌, ◌%◌, ◌^◌, ◌<◌, ◌≤◌, min, Bool, true, false, not, cond, List, [], ◌∷◌, ◌++◌, length, filter, reverse, take, drop, sum, Some, Result, Ok, Err, refl, sym, ap, ◌∙◌, arith, length-append}
use Rattle.std.specs.List.{flat_map, range_with_len, slice_get}
use Rattle.std.specs.Prelude.{slice_index_or}
use Rattle.std.proofs.Math.Path.{fun_ext}
use Rattle.std.proofs.lemmas.List.{length-map, length-reverse, length-take}
use Rattle.std.proofs.lemmas.List.Elements.{filter-append}
use Rattle.std.proofs.lemmas.List.Filters.{length-filter_both}
use Rattle.std.proofs.lemmas.List.FromFn.{length-range_with_len}
use Rattle.std.proofs.lemmas.Option.{get_or_from_slice_get}
use Rattle.sgb_graph.specs.Made.{graph_described}
use Rattle.sgb_vec.specs.Lexicographic.{IsWithin}
use Rattle.sgb_vec.specs.Limits.{most_vertices}
use Rattle.sgb_vec.specs.Sums.{bounded_sums}
use Rattle.sgb_vec.proofs.Lists.{reverse-first}
use Rattle.sgb_vec.proofs.SumMembers.{Contains-bounded_sums, bounded_sums-rise}
use Rattle.sgb_vec.proofs.SumSuccessors.{sum-cons}
use Rattle.sgb_gen.specs.ArcSinks.{AreGiven}
use Rattle.sgb_gen.specs.LocalLists.{LocalArc}
use Rattle.sgb_gen.specs.Subsets.{SubsetsData, common_size, is_wanted_size, moves_of_subsets, moves_to_place, subsets_vector_graph, subsets_vectors}
use Rattle.sgb_moves.specs.VectorMoves.{Move}
use Rattle.sgb_gen.specs.VectorGraphs.{described_by, family_graph, vertex_among}
use Rattle.sgb_gen.specs.inner.Descents.{IsBegun, arcs_under, down_from, row}
use Rattle.sgb_gen.specs.inner.SubsetsCounts.{HasNoneAbove, moves_among, wanted_among}
use Rattle.sgb_gen.proofs.BoardCountsBoards.{arcs-directed, arcs-undirected}
use Rattle.sgb_gen.proofs.DescentArcs.{from-taken, row-under, under-zeros}
use Rattle.sgb_gen.proofs.FamilyWalks.{at_front, next_left}
use Rattle.sgb_gen.proofs.RisingVectors.{vertex_in_rising}
use Rattle.sgb_gen.proofs.SubsetsEvents.{is_among}
use Rattle.sgb_gen.proofs.SubsetsLists.{common-turned}

-- ---- as many as arcs

-- whatever they begin with
among-arcs : (sb : ℕ) (front : List ℕ) (c : ℕ) (x : List ℕ) (vs : List (List ℕ)) → wanted_among sb c x vs ≡ length (arcs_under sb front c x vs)
among-arcs sb front c x vs = grind (arith, length-map)

-- all are counted, in 64 bits
pub arcs-counted : {S T F : Type 0} (sb : ℕ) (front : List ℕ) (c : ℕ) (x : List ℕ) (r : Result T F) (old new : ℕ) (before after : S) (vs : List (List ℕ))
    → AreGiven (λ ra oa arcs rb ob. ra < 2 ^ 64 → rb ≡ (ra + length arcs) % 2 ^ 64) (λ ra oa arcs rb ob f. ⊥) old before (arcs_under sb front c x vs) new after r
    → old < 2 ^ 64 → new ≡ (old + wanted_among sb c x vs) % 2 ^ 64
arcs-counted sb front c x (Ok y) old new before after vs h fits = h fits ∙ ap (λ n. (old + n) % 2 ^ 64) (sym (among-arcs sb front c x vs))
arcs-counted sb front c x (Err f) old new before after vs h fits = absurd h

-- so where the arcs are the same
among-same : (sb : ℕ) (front left : List ℕ) (c d : ℕ) (x y : List ℕ) (vs ws : List (List ℕ)) → arcs_under sb front c x vs ≡ arcs_under sb left d y ws → wanted_among sb c x vs ≡ wanted_among sb d y ws
among-same sb front left c d x y vs ws same =
    among-arcs sb front c x vs ∙ ap length same ∙ sym (among-arcs sb left d y ws)

pub among-append : (sb c : ℕ) (x : List ℕ) (us ws : List (List ℕ)) → wanted_among sb c x (us ++ ws) ≡ wanted_among sb c x us + wanted_among sb c x ws
among-append sb c x us ws = grind (arith, filter-append, length-append)

-- at most all
pub among-most : (sb c : ℕ) (x : List ℕ) (vs : List (List ℕ)) → wanted_among sb c x vs ≤ length vs
among-most sb c x vs =
    let wanted : List ℕ → Bool = λ v. is_wanted_size sb (common_size x v + c) in
    omega (arith, length-filter_both wanted (λ v. not (wanted v)) (λ v. refl) vs)

-- none with too much in common before
pub among-none : (sb most c : ℕ) (x : List ℕ) (vs : List (List ℕ)) → HasNoneAbove sb most → most < c → wanted_among sb c x vs ≡ 0
among-none sb most c x [] none more = refl
among-none sb most c x (v ∷ vs) none more = rw (none (common_size x v + c) (omega (arith, more))) (among-none sb most c x vs none more)

-- in the other order as many
pub among-reverse : (sb c : ℕ) (x : List ℕ) (vs : List (List ℕ)) → wanted_among sb c x (reverse vs) ≡ wanted_among sb c x vs
among-reverse sb c x [] = refl
among-reverse sb c x (v ∷ vs) = grind (arith, reverse-first, among-append, reverse, among-reverse sb c x vs)

-- ---- where the descent ends

one_if : (b : Bool) (arc : LocalArc) → length (cond b (arc ∷ []) []) ≡ cond b 1 0
one_if b arc = grind (arith)

-- nothing is left to be placed
pub among-zeros : (sb c left : ℕ) (bs x : List ℕ) → left ≡ 0 → cond (is_wanted_size sb c) 1 0 ≡ wanted_among sb c x (reverse (bounded_sums left bs))
among-zeros sb c left bs x none =
    sym (among-arcs sb [] c x (reverse (bounded_sums left bs))
    ∙ ap length (under-zeros sb [] c left bs x (is_wanted_size sb c) none refl)
    ∙ one_if (is_wanted_size sb c) _)

-- ---- where it goes on

-- a row by the vectors that go on
pub among-row : (sb c left h e : ℕ) (bs x : List ℕ) → e ≤ left → wanted_among sb (c + min h e) x (reverse (bounded_sums (left - e) bs)) ≡ wanted_among sb c (h ∷ x) (row left bs e)
among-row sb c left h e bs x within = among-same sb ([] ++ e ∷ []) [] (c + min h e) c x (h ∷ x) _ _ (row-under sb [] c left h e bs x within)

-- what is known with one more entry
pub begun-on : (room shared left c b h e : ℕ) (bs xs bounds x : List ℕ) → bounds ≡ b ∷ bs → x ≡ h ∷ xs → e ≤ left → IsBegun bounds x room shared left c → IsBegun bs xs (room - b) (shared - h) (left - e) (c + min h e)
begun-on room shared left c b h e bs xs bounds x bounds_are x_is within begun = grind (arith, sum-cons)

-- ---- there are few

pub few-from : (sb c left most : ℕ) (bs x : List ℕ) → IsWithin x bs → left ≡ sum x → length (bounded_sums left bs) ≤ most → wanted_among sb c x (down_from bs x) ≤ most
few-from sb c left most bs x h adds few = grind (arith, among-most, from-taken, length-reverse, length-take)

-- ---- all moves

-- those to a place: as many as it joins of the vectors from its own on down
moves_at : (s : SubsetsData) (i : ℕ) (v : List ℕ) → slice_get (subsets_vectors s) i ≡ Some v → length (moves_to_place s.size_bits (subsets_vectors s) i) ≡ wanted_among s.size_bits 0 v (down_from s.sum.bounds v)
moves_at s i v at =
    let sb = s.size_bits in
    let vectors = subsets_vectors s in
    let us = take (i + 1) vectors in
    let w = slice_index_or vectors i [] in
    let there : w ≡ v = get_or_from_slice_get vectors i v [] at in
    let is = (Contains-bounded_sums s.sum.total s.sum.bounds v).0 (is_among vectors i v at) in
    let place : vertex_among vectors v ≡ i = vertex_in_rising vectors i v (bounded_sums-rise s.sum.total s.sum.bounds) at in
    let down : reverse us ≡ down_from s.sum.bounds v = grind (arith, reverse, from-taken) in
    grind (arith, length-map, filter, fun_ext, common-turned, among-reverse, sb, vectors, us, w, there, is, place, down)

-- those to all places from one on
moves_from : (s : SubsetsData) (vs : List (List ℕ)) (k : ℕ) → vs ≡ drop k (subsets_vectors s) → length (flat_map (moves_to_place s.size_bits (subsets_vectors s)) (range_with_len k (length vs))) ≡ moves_among s.size_bits s.sum.bounds vs
moves_from s [] k is = refl
moves_from s (v ∷ vs) k is =
    let vectors = subsets_vectors s in
    let here = moves_at s k v (at_front vectors (v ∷ vs) k v is refl) in
    simp (next_left, length-append, vectors, here, moves_from s vs (k + 1) (next_left vectors (v ∷ vs) vs k is refl))

pub moves-counted : (s : SubsetsData) → length (moves_of_subsets s) ≡ moves_among s.size_bits s.sum.bounds (subsets_vectors s)
unfolding moves_of_subsets
moves-counted s = moves_from s (subsets_vectors s) 0 refl

-- of few vectors they are fewer than 2^64
few_to_place : (s : SubsetsData) (i : ℕ) → length (moves_to_place s.size_bits (subsets_vectors s) i) ≤ length (subsets_vectors s)
few_to_place s i =
    let vectors = subsets_vectors s in
    let us = take (i + 1) vectors in
    let w = slice_index_or vectors i [] in
    let move : List ℕ → Move = λ u. record { from = u; to = w; len = 1 } in
    let wanted : List ℕ → Bool = λ u. is_wanted_size s.size_bits (common_size u w) in
    omega (arith, length-map (filter wanted us) move, length-filter_both wanted (λ u. not (wanted u)) (λ u. refl) us, length-take (i + 1) vectors)

few_joined : (moves : ℕ → List Move) → ((i : ℕ) → length (moves i) ≤ most_vertices) → (places : List ℕ) → length (flat_map moves places) ≤ length places * most_vertices
few_joined moves few [] = omega arith
few_joined moves few (i ∷ places) = omega (arith, length-append (moves i) (flat_map moves places), few i, few_joined moves few places)

pub moves-few : (s : SubsetsData) → length (subsets_vectors s) ≤ most_vertices → length (moves_of_subsets s) ≤ most_vertices * most_vertices
unfolding moves_of_subsets
moves-few s few = grind (arith, length-range_with_len, few_joined, few_to_place)

-- ---- the arcs of the graph

pub arcs-of-directed : (s : SubsetsData) → s.directed ≡ true → (graph_described (described_by (subsets_vector_graph s))).m ≡ length (moves_of_subsets s)
unfolding family_graph
arcs-of-directed s e = grind (arith, arcs-directed, length-map)

pub arcs-of-undirected : (s : SubsetsData) → s.directed ≡ false → (graph_described (described_by (subsets_vector_graph s))).m ≡ length (moves_of_subsets s) * 2
unfolding family_graph
arcs-of-undirected s e = grind (arith, arcs-undirected, length-map)
