-- The moves of subsets as pairs of vectors: two of these pairs to a move between two vectors, one to that of a vector to itself.
use Rattle.std.proofs.Common.{◌≡◌, ℕ, zero, suc, ◌+◌, ◌*◌, ◌^◌, ◌<◌, ◌≤◌, Bool, cond, List, [], ◌∷◌, ◌++◌, length, filter, take, drop, sum, refl, sym, ap, ◌∙◌, arith, get_or, length-append, append_assoc}
use Rattle.std.specs.List.{All, flat_map, range_with_len}
use Rattle.std.specs.Prelude.{slice_index_or}
use Rattle.std.proofs.Math.Path.{fun_ext}
use Rattle.std.proofs.Math.Seq.{get_or-append_seam}
use Rattle.std.proofs.lemmas.List.{length-map, take_at}
use Rattle.std.proofs.lemmas.List.Elements.{All-head, All-tail, Contains-get_or}
use Rattle.sgb_vec.specs.Limits.{most_vertices}
use Rattle.sgb_vec.proofs.SumMembers.{Contains-bounded_sums}
use Rattle.sgb_vec.proofs.SumSuccessors.{sum-cons}
use Rattle.sgb_gen.specs.Subsets.{SubsetsData, common_size, is_wanted_size, moves_of_subsets, moves_to_place, subsets_vectors}
use Rattle.sgb_gen.specs.inner.SubsetsCounts.{wanted_among}
use Rattle.sgb_gen.specs.inner.SubsetsPairs.{HasCounts, pairs_among, pairs_of_sums, place_of_pairs}
use Rattle.sgb_gen.proofs.SubsetsCounts.{among-append}
use Rattle.sgb_gen.proofs.SubsetsLists.{common-turned}
use Rattle.sgb_gen.proofs.SubsetsPairs.{pairs-few, pairs-second}

-- ---- each pair once, and in both orders

-- pairs of a vector and of it or a later one
abbrev pairs_once : ℕ → List (List ℕ) → ℕ
pairs_once sb [] = 0
pairs_once sb (v ∷ vs) = wanted_among sb 0 v (v ∷ vs) + pairs_once sb vs

-- pairs of a vector and itself
abbrev pairs_alike : ℕ → List (List ℕ) → ℕ
pairs_alike sb [] = 0
pairs_alike sb (v ∷ vs) = wanted_among sb 0 v (v ∷ []) + pairs_alike sb vs

pub one_if : (b : Bool) (v : List ℕ) → length (cond b (v ∷ []) []) ≡ cond b 1 0
one_if b v = grind (arith)

one_each : (b : Bool) (u v : List ℕ) → length (cond b (u ∷ []) []) ≡ length (cond b (v ∷ []) [])
one_each b u v = grind (arith)

-- what two vectors have in common they have in the other order
turned : (sb : ℕ) (u v : List ℕ) → wanted_among sb 0 u (v ∷ []) ≡ wanted_among sb 0 v (u ∷ [])
turned sb u v = ap (λ n. length (cond (is_wanted_size sb (n + 0)) (v ∷ []) [])) (common-turned u v) ∙ one_each (is_wanted_size sb (common_size v u + 0)) v u

with_one : (sb : ℕ) (v : List ℕ) (us : List (List ℕ)) → pairs_among sb 0 us (v ∷ []) ≡ wanted_among sb 0 v us
with_one sb v [] = refl
with_one sb v (u ∷ us) = omega (arith, turned sb u v, with_one sb v us, among-append sb 0 v (u ∷ []) us)

-- both orders, and those of a vector and itself once more
both_orders : (sb : ℕ) (vs : List (List ℕ)) → pairs_among sb 0 vs vs + pairs_alike sb vs ≡ 2 * pairs_once sb vs
both_orders sb [] = refl
both_orders sb (v ∷ vs) =
    omega (arith, both_orders sb vs, pairs-second sb 0 vs (v ∷ []) vs, with_one sb v vs, among-append sb 0 v (v ∷ []) vs)

-- ---- the moves are the pairs, each once

-- the moves to one place
moves_here : (sb : ℕ) (before vs : List (List ℕ)) (v : List ℕ) → length (moves_to_place sb (before ++ v ∷ vs) (length before)) ≡ wanted_among sb 0 v (before ++ v ∷ [])
moves_here sb before vs v =
    let vectors = before ++ v ∷ vs in
    let w = slice_index_or vectors (length before) [] in
    let us = take (length before + 1) vectors in
    let these : us ≡ before ++ v ∷ [] =
    ap (take (length before + 1)) (sym (append_assoc before (v ∷ []) vs))
    ∙ take_at (before ++ v ∷ []) vs (length before + 1) (length-append before (v ∷ [])) in
    grind (arith, get_or-append_seam, length-map, filter, fun_ext, common-turned, vectors, w, us, these)

-- the moves to all places from one on
moves_on : (sb k : ℕ) (vectors before vs : List (List ℕ)) → vectors ≡ before ++ vs → k ≡ length before → length (flat_map (moves_to_place sb vectors) (range_with_len k (length vs))) ≡ pairs_among sb 0 vs before + pairs_once sb vs
moves_on sb k vectors before [] is place = refl
moves_on sb k vectors before (v ∷ vs) is place = grind (arith, moves_here, append_assoc, length-append, among-append, pairs-second, with_one, moves_on sb (k + 1) vectors (before ++ v ∷ []) vs (is ∙ sym (append_assoc before (v ∷ []) vs)) (omega (arith, place, length-append before (v ∷ []))))

none_before : (sb : ℕ) (vs : List (List ℕ)) → pairs_among sb 0 vs [] ≡ 0
none_before sb [] = refl
none_before sb (v ∷ vs) = omega (arith, none_before sb vs)

-- ---- pairs of a vector and itself

pub common_own : (v : List ℕ) → common_size v v ≡ sum v
common_own [] = refl
common_own (x ∷ v) = omega (arith, common_own v, sum-cons x v)

alike_none : (b : Bool) (n : ℕ) → n ≡ cond b n n
alike_none b n = grind (arith)

alike_all : (sb n : ℕ) (vs : List (List ℕ)) → All (λ v. sum v ≡ n) vs → pairs_alike sb vs ≡ cond (is_wanted_size sb n) (length vs) 0
alike_all sb n [] adds = alike_none (is_wanted_size sb n) 0
alike_all sb n (v ∷ vs) adds = grind (arith, pairs_alike, All-head, All-tail, common_own, one_if, alike_all sb n vs (All-tail (λ v. sum v ≡ n) v vs adds))

-- ---- all moves

pub moves-by_pairs : (s : SubsetsData) (pairs loops : ℕ) → pairs ≡ pairs_among s.size_bits 0 (subsets_vectors s) (subsets_vectors s)
    → loops ≡ cond (is_wanted_size s.size_bits s.sum.total) (length (subsets_vectors s)) 0
    → pairs + loops ≡ 2 * length (moves_of_subsets s)
unfolding moves_of_subsets
moves-by_pairs s pairs loops pairs_are loops_are =
    let sb = s.size_bits in
    let vs = subsets_vectors s in
    let adds : All (λ v. sum v ≡ s.sum.total) vs = λ k d within. ((Contains-bounded_sums s.sum.total s.sum.bounds (get_or vs k d)).0 (Contains-get_or vs k d within)).1 in
    omega (
      arith,
      both_orders sb vs,
      moves_on sb 0 vs [] vs refl refl,
      none_before sb vs,
      alike_all sb s.sum.total vs adds,
    )

-- there are few, since there are few vectors
pub pairs-bounded : (s : SubsetsData) → length (subsets_vectors s) ≤ most_vertices → pairs_of_sums s.size_bits s.sum.bounds s.sum.total s.sum.total 0 ≤ most_vertices * most_vertices
pairs-bounded s few = omega (arith, pairs-few s.size_bits 0 (subsets_vectors s) (subsets_vectors s) few, few)

-- what the last cell has
pub pairs-found : (sb total most k found : ℕ) (bounds table : List ℕ) → k ≤ 0 → pairs_of_sums sb bounds total total 0 < 2 ^ 64
    → HasCounts total most (pairs_of_sums sb (drop k bounds)) table → found ≡ get_or table (place_of_pairs total most total total 0) 0
    → found ≡ pairs_of_sums sb bounds total total 0
pairs-found sb total most (suc k) found bounds table none few has is = absurd (omega (arith, none))
pairs-found sb total most zero found bounds table none few has is =
    omega (arith, is ∙ has total total 0 (omega arith) (omega arith), few)
