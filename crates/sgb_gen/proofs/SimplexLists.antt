-- The list of a vector of a simplex is made by pairs of its places.
use Rattle.std.proofs.Common.{rules, ◌≡◌, ℕ, zero, suc, ◌+◌, ◌-◌, ◌<◌, ◌≤◌, pos, Bool, true, false, cond, ◌&&◌, List, [], ◌∷◌, ◌++◌, length, map, reverse, get_or, sum, refl, sym, ap, ap₂, subst, ◌∙◌, inl, inr, arith, append-nil}
use Rattle.std.specs.Cmp.Lexicographic.{bytes_decides}
use Rattle.std.specs.List.{All, AllPairs, Contains, filter, flat_map, range_with_len}
use Rattle.std.proofs.lemmas.Bool.{and_parts, and_from}
use Rattle.std.proofs.lemmas.List.{map-append, reverse-append, reverse-reverse}
use Rattle.std.proofs.lemmas.List.Elements.{All-cons, All-contains, All-contains_itself, All-filter, All-head, All-map, All-nil, All-tail, All-weaker, Contains-append_cases, Contains-append_right, filter_passes, length_all_zip}
use Rattle.std.proofs.lemmas.List.Concat.{flat_map-append}
use Rattle.std.proofs.lemmas.List.Kept.{AllPairs-filter}
use Rattle.sgb_vec.specs.Lexicographic.{IsBefore, IsRising, IsWithin}
use Rattle.sgb_vec.specs.Sums.{bounded_sums}
use Rattle.sgb_vec.proofs.SumMembers.{Contains-bounded_sums, bounded_sums-rise}
use Rattle.sgb_graph.proofs.Lists.{map-map}
use Rattle.sgb_moves.specs.VectorMoves.{Move, same_vector}
use Rattle.sgb_gen.specs.VectorGraphs.{HasEnds}
use Rattle.sgb_gen.specs.Simplexes.{SimplexData, simplex_vectors, moves_of_simplex, Places, pairs_of_places, moves_to}
use Rattle.sgb_gen.specs.inner.Simplexes.{can_shift, shifted, pairs_from, moves_by}
use Rattle.sgb_gen.specs.inner.LocalArcs.{arc_if, arcs_by, arcs_of_moves}
use Rattle.sgb_gen.specs.LocalLists.{LocalArc, list_at}
use Rattle.sgb_gen.specs.inner.LocalSimplexes.{can_return, returned, arcs_back, arcs_on, pairs_down, pairs_back, arcs_by_pairs}
use Rattle.sgb_gen.proofs.MoveLists.{list_at-moves, arcs-append}
use Rattle.sgb_gen.proofs.SimplexEvents.{shifted_in_simplex}
use Rattle.sgb_vec.proofs.Lists.{AllPairs-none, AllPairs-first, AllPairs-others, AllPairs-append, AllPairs-map, AllPairs-reverse, AllPairs-follows, range-rises, range-within, Contains-first, Contains-cases, Contains-none, Contains-image, Contains-passing, Contains-flat_map, Contains-range, Contains-reverse, All-flat_map, All-reverse, made-append, reverse-first, filter-none, flat_map-none, never_true}
use Rattle.sgb_gen.proofs.OrderedLists.{before_none, before_trans, rising_same}
use Rattle.sgb_gen.proofs.ShiftedEntries.{IsPair, RisesTo, FallsTo, length-returned, returned-shifted, shifted-returned, can_return-shifted, can_shift-returned, shifted-before, returned-in_sum, shifted-once, returned-before}
use Rattle.sgb_gen.proofs.Vertices.{other_is}

-- the pairs of place j
abbrev IsPairOf : ℕ → ℕ → Places → Type 0
IsPairOf n j at = (at.lower ≡ j) × IsPair n at

pairs_from-are : (n j : ℕ) → All (IsPairOf n j) (pairs_from n j)
pairs_from-are n j =
    All-map (IsPairOf n j) (λ k. record { lower = j; higher = k }) (range_with_len (j + 1) (n - (j + 1)))
    (λ k d within. let r = range-within (j + 1) (n - (j + 1)) k d within in (refl, (omega (arith, r.0), omega (arith, r.0, r.1))))

pairs_down-are : (n j : ℕ) → All (IsPairOf n j) (pairs_down n j)
pairs_down-are n j = All-reverse (IsPairOf n j) (pairs_from n j) (pairs_from-are n j)

-- they are in order
pairs_from-rise : (n j : ℕ) → AllPairs RisesTo (pairs_from n j)
pairs_from-rise n j =
    AllPairs-map RisesTo (λ k. record { lower = j; higher = k }) (range_with_len (j + 1) (n - (j + 1)))
    (λ i k d less within. inr (refl, range-rises (j + 1) (n - (j + 1)) i k d less within))

pairs_down-fall : (n j : ℕ) → AllPairs FallsTo (pairs_down n j)
pairs_down-fall n j =
    AllPairs-reverse FallsTo (pairs_from n j)
    (AllPairs-map (λ p q. FallsTo q p) (λ k. record { lower = j; higher = k }) (range_with_len (j + 1) (n - (j + 1)))
    (λ i k d less within. inr (refl, range-rises (j + 1) (n - (j + 1)) i k d less within)))

-- pairs by their lower places
module _ (n : ℕ) (f : ℕ → List Places) (are : (j : ℕ) → All (IsPairOf n j) (f j)) where
  pairs-are : (start count : ℕ) → All (IsPair n) (flat_map f (range_with_len start count))
  pairs-are start count =
      All-flat_map (IsPair n) f (range_with_len start count)
      (λ k d within. All-weaker (IsPairOf n (get_or (range_with_len start count) k d)) (IsPair n) (λ at h. h.1) (f (get_or (range_with_len start count) k d)) (are (get_or (range_with_len start count) k d)))

  pairs-later : (low start count : ℕ) → low < start → All (λ q. low < q.lower) (flat_map f (range_with_len start count))
  pairs-later low start count less =
      All-flat_map (λ q. low < q.lower) f (range_with_len start count)
      (λ k d within.
      let r = range-within start count k d within in
      All-weaker (IsPairOf n (get_or (range_with_len start count) k d)) (λ q. low < q.lower) (λ at h. omega (arith, less, r.0, h.0)) (f (get_or (range_with_len start count) k d)) (are (get_or (range_with_len start count) k d)))

  pairs-in_order : (R : Places → Places → Type 0) → ((j : ℕ) → AllPairs R (f j)) → ((p q : Places) → p.lower < q.lower → R p q) → (start count : ℕ) → AllPairs R (flat_map f (range_with_len start count))
  pairs-in_order R each less start zero = AllPairs-none R
  pairs-in_order R each less start (suc count) =
      let rest = flat_map f (range_with_len (start + 1) count) in
      AllPairs-append R (f start) rest (each start) (pairs-in_order R each less (start + 1) count)
      (All-weaker (IsPairOf n start) (λ p. All (R p) rest)
      (λ p here. All-weaker (λ q. start < q.lower) (R p) (λ q later. less p q (omega (arith, here.0, later))) rest (pairs-later start (start + 1) count (omega arith)))
      (f start) (are start))

all_pairs-are : (n : ℕ) → All (IsPair n) (pairs_of_places n)
all_pairs-are n = pairs-are n (pairs_from n) (pairs_from-are n) 0 n

all_pairs-rise : (n : ℕ) → AllPairs RisesTo (pairs_of_places n)
all_pairs-rise n = pairs-in_order n (pairs_from n) (pairs_from-are n) RisesTo (pairs_from-rise n) (λ p q less. inl less) 0 n

pairs_back-are : (n : ℕ) → All (IsPair n) (pairs_back n)
pairs_back-are n = pairs-are n (pairs_down n) (pairs_down-are n) 0 n

pairs_back-fall : (n : ℕ) → AllPairs FallsTo (pairs_back n)
pairs_back-fall n = pairs-in_order n (pairs_down n) (pairs_down-are n) FallsTo (pairs_down-fall n) (λ p q less. inl less) 0 n

-- each pair stands among them
in_pairs_from : (n : ℕ) (at : Places) → IsPair n at → Contains (pairs_from n at.lower) at
in_pairs_from n at pair =
    Contains-image (λ k. record { lower = at.lower; higher = k }) (range_with_len (at.lower + 1) (n - (at.lower + 1))) at.higher
    (Contains-range (at.lower + 1) (n - (at.lower + 1)) at.higher (omega (arith, pair.0)) (omega (arith, pair.0, pair.1)))

in_all_pairs : (n : ℕ) (at : Places) → IsPair n at → Contains (pairs_of_places n) at
in_all_pairs n at pair =
    Contains-flat_map (pairs_from n) (range_with_len 0 n) at.lower at
    (Contains-range 0 n at.lower (omega arith) (omega (arith, pair.0, pair.1))) (in_pairs_from n at pair)

in_pairs_back : (n : ℕ) (at : Places) → IsPair n at → Contains (pairs_back n) at
in_pairs_back n at pair =
    Contains-flat_map (pairs_down n) (range_with_len 0 n) at.lower at
    (Contains-range 0 n at.lower (omega arith) (omega (arith, pair.0, pair.1)))
    (Contains-reverse (pairs_from n at.lower) at (in_pairs_from n at pair))

-- an arc of length 1
abbrev unit_arc : List ℕ → LocalArc
unit_arc v = record { tip = v; len = pos 1 }

-- the move to v by a pair
abbrev move_by : List ℕ → Places → Move
move_by v at = record { from = shifted v at; to = v; len = 1 }

-- a list in two at an element
split_at : (xs : List (List ℕ)) (v : List ℕ) → Contains xs v → (before : List (List ℕ)) × (after : List (List ℕ)) × (xs ≡ before ++ v ∷ after)
split_at [] v h = absurd (Contains-none v h)
split_at (w ∷ xs) v h =
    elim (Contains-cases w v xs h) [
      | inl same ↦ ([], xs, ap (λ u. u ∷ xs) same)
      | inr later ↦ let s = split_at xs v later in (w ∷ s.0, s.1, ap (λ l. w ∷ l) s.2)
    ]

-- if it rises, what is before the element and what is after it
rising-before : (before after : List (List ℕ)) (v : List ℕ) → IsRising (before ++ v ∷ after) → All (λ w. IsBefore w v) before
rising-before [] after v h = All-nil (λ w. IsBefore w v)
rising-before (u ∷ before) after v h =
    All-cons (λ w. IsBefore w v) u before
    (All-contains (IsBefore u) (before ++ v ∷ after) v (AllPairs-first IsBefore u (before ++ v ∷ after) h) (Contains-append_right before (v ∷ after) v (Contains-first v after)))
    (rising-before before after v (AllPairs-others IsBefore u (before ++ v ∷ after) h))

rising-from : (before after : List (List ℕ)) (v : List ℕ) → IsRising (before ++ v ∷ after) → IsRising (v ∷ after)
rising-from [] after v h = h
rising-from (u ∷ before) after v h = rising-from before after v (AllPairs-others IsBefore u (before ++ v ∷ after) h)

All-behind : (P : List ℕ → Type 0) (before vs : List (List ℕ)) → All P (before ++ vs) → All P vs
All-behind P [] vs h = h
All-behind P (u ∷ before) vs h = All-behind P before vs (All-tail P u (before ++ vs) h)

-- the list of x, in the simplex with these bounds
module _ (bounds x : List ℕ) where
  -- a unit goes from v by this pair, and x is what it leaves
  abbrev hits : List ℕ → Places → Bool
  hits v at = can_shift bounds v at && same_vector (shifted v at) x

  -- the vector v once for each such pair
  abbrev tips_of : List ℕ → List Places → List (List ℕ)
  tips_of v ps = map (λ at. v) (filter (hits v) ps)

  abbrev tips_to : List ℕ → List (List ℕ)
  tips_to v = tips_of v (pairs_of_places (length v))

  -- one move to another vector than x
  arc_of_move : (directed : Bool) (from v : List ℕ) → same_vector v x ≡ false → arcs_by directed x (record { from = from; to = v; len = 1 }) ≡ arc_if (same_vector from x) v 1
  arc_of_move directed from v other = grind (arith, append-nil)

  -- the moves to v by a pair and then others
  move_first : (directed : Bool) (v : List ℕ) (at : Places) (ps : List Places) → same_vector v x ≡ false
      → arcs_of_moves directed x (moves_by bounds v ps) ≡ map unit_arc (reverse (tips_of v ps))
      → (c d : Bool) → c ≡ can_shift bounds v at → d ≡ same_vector (shifted v at) x
      → arcs_of_moves directed x (map (move_by v) (cond c (at ∷ filter (can_shift bounds v) ps) (filter (can_shift bounds v) ps)))
      ≡ map unit_arc (reverse (map (λ p. v) (cond (c && d) (at ∷ filter (hits v) ps) (filter (hits v) ps))))
  move_first directed v at ps other rest c d is_c is_d = grind (arith, arc_of_move, append-nil, unit_arc, map-append, reverse, tips_of, reverse-first)

  moves_elsewhere : (directed : Bool) (v : List ℕ) (ps : List Places) → same_vector v x ≡ false → arcs_of_moves directed x (moves_by bounds v ps) ≡ map unit_arc (reverse (tips_of v ps))
  moves_elsewhere directed v [] other = refl
  moves_elsewhere directed v (at ∷ ps) other = grind (arith, move_first, moves_elsewhere directed v ps other)

  -- the moves to vectors other than x
  moves_to_others : (directed : Bool) (vs : List (List ℕ)) → All (λ v. same_vector v x ≡ false) vs → arcs_of_moves directed x (flat_map (moves_to bounds) vs) ≡ map unit_arc (reverse (flat_map tips_to vs))
  moves_to_others directed [] others = refl
  moves_to_others directed (v ∷ vs) others =
      arcs-append directed x (moves_to bounds v) (flat_map (moves_to bounds) vs)
      ∙ ap₂ (λ a b. a ++ b) (moves_to_others directed vs (All-tail (λ w. same_vector w x ≡ false) v vs others)) (moves_elsewhere directed v (pairs_of_places (length v)) (All-head (λ w. same_vector w x ≡ false) v vs others))
      ∙ sym (map-append unit_arc (reverse (flat_map tips_to vs)) (reverse (tips_to v)))
      ∙ ap (map unit_arc) (sym (reverse-append (tips_to v) (flat_map tips_to vs)))

  -- a vector before x is not reached
  none_before : (v : List ℕ) → IsBefore v x → tips_to v ≡ []
  none_before v before = search (rules, filter-none, All-weaker, never_true, and_parts, shifted-before, before_none, before_trans, all_pairs-are)

  -- the moves to x
  abbrev own_arcs : (directed : Bool) → List Places → List LocalArc
  own_arcs true ps = []
  own_arcs false ps = arcs_on bounds x (reverse ps)

  arc_of_own_move : (directed : Bool) (from : List ℕ) → same_vector from x ≡ false → arcs_by directed x (record { from = from; to = x; len = 1 }) ≡ cond directed [] (unit_arc from ∷ [])
  arc_of_own_move directed from other = search (rules, arc_if, bytes_decides)

  own_first : (directed : Bool) (at : Places) (ps : List Places)
      → arcs_of_moves directed x (moves_by bounds x ps) ≡ own_arcs directed ps
      → (c : Bool) → c ≡ can_shift bounds x at → (c ≡ true → same_vector (shifted x at) x ≡ false)
      → arcs_of_moves directed x (map (move_by x) (cond c (at ∷ filter (can_shift bounds x) ps) (filter (can_shift bounds x) ps)))
      ≡ own_arcs directed ps ++ cond directed [] (map (λ p. unit_arc (shifted x p)) (cond c (at ∷ []) []))
  own_first directed at ps rest c is_c other = grind (arith, append-nil, own_arcs, arc_of_own_move)

  own_join : (directed : Bool) (at : Places) (ps : List Places) → own_arcs directed ps ++ cond directed [] (arcs_on bounds x (at ∷ [])) ≡ own_arcs directed (at ∷ ps)
  own_join directed at ps = grind (arith, made-append, unit_arc, reverse, reverse-first)

  own_moves : (directed : Bool) (ps : List Places) → All (IsPair (length x)) ps → arcs_of_moves directed x (moves_by bounds x ps) ≡ own_arcs directed ps
  own_moves true [] pairs = refl
  own_moves false [] pairs = refl
  own_moves directed (at ∷ ps) pairs =
      own_first directed at ps (own_moves directed ps (All-tail (IsPair (length x)) at ps pairs)) (can_shift bounds x at) refl
      (λ can. other_is (shifted x at) x (λ e. before_none x (subst (λ w. IsBefore w x) e (shifted-before bounds x at (All-head (IsPair (length x)) at ps pairs) can))))
      ∙ own_join directed at ps

  -- by one pair at most v is reached
  tips_to-rise : (v : List ℕ) → IsRising (tips_to v)
  tips_to-rise v =
      let pairs = pairs_of_places (length v) in
      AllPairs-map IsBefore (λ at. v) (filter (hits v) pairs)
      (AllPairs-follows (λ p. (hits v p ≡ true) × IsPair (length v) p) RisesTo (λ p q. IsBefore v v) (filter (hits v) pairs)
      (λ p q hp hq rises.
      let here = and_parts (can_shift bounds v p) (same_vector (shifted v p) x) hp.0 in
      let there = and_parts (can_shift bounds v q) (same_vector (shifted v q) x) hq.0 in
      absurd (shifted-once bounds v p q hp.1 hq.1 here.0 rises ((bytes_decides (shifted v p) x).0 here.1 ∙ sym ((bytes_decides (shifted v q) x).0 there.1))))
      (λ k d within. (filter_passes (hits v) pairs k d within, All-filter (hits v) (IsPair (length v)) pairs (all_pairs-are (length v)) k d within))
      (AllPairs-filter RisesTo (hits v) pairs (all_pairs-rise (length v))))

  -- so the vectors that are reached rise
  tips-rise : (vs : List (List ℕ)) → IsRising vs → IsRising (flat_map tips_to vs)
  tips-rise [] rise = AllPairs-none IsBefore
  tips-rise (v ∷ vs) rise =
      let after = AllPairs-first IsBefore v vs rise in
      let all_after : All (IsBefore v) (flat_map tips_to vs) = All-flat_map (IsBefore v) tips_to vs
      (λ k d within. All-map (IsBefore v) (λ at. get_or vs k d) (filter (hits (get_or vs k d)) (pairs_of_places (length (get_or vs k d)))) (λ i e inside. after k d within)) in
      AllPairs-append IsBefore (tips_to v) (flat_map tips_to vs) (tips_to-rise v) (tips-rise vs (AllPairs-others IsBefore v vs rise))
      (All-map (λ u. All (IsBefore u) (flat_map tips_to vs)) (λ at. v) (filter (hits v) (pairs_of_places (length v))) (λ i e inside. all_after))

  -- and those that x becomes fall
  abbrev tips_back : List (List ℕ)
  tips_back = map (returned x) (filter (can_return bounds x) (pairs_back (length x)))

  tips_back-rise : IsRising (reverse tips_back)
  tips_back-rise =
      let pairs = pairs_back (length x) in
      AllPairs-reverse IsBefore tips_back
      (AllPairs-map (λ a b. IsBefore b a) (returned x) (filter (can_return bounds x) pairs)
      (AllPairs-follows (λ p. (can_return bounds x p ≡ true) × IsPair (length x) p) FallsTo (λ p q. IsBefore (returned x q) (returned x p)) (filter (can_return bounds x) pairs)
      (λ p q hp hq falls. returned-before bounds x p q hp.1 hq.1 hq.0 falls)
      (λ k d within. (filter_passes (can_return bounds x) pairs k d within, All-filter (can_return bounds x) (IsPair (length x)) pairs (pairs_back-are (length x)) k d within))
      (AllPairs-filter FallsTo (can_return bounds x) pairs (pairs_back-fall (length x)))))

  -- what is reached is what x becomes
  reached : (v : List ℕ) (p : Places) → IsWithin v bounds → length v ≡ length x → hits v p ≡ true → IsPair (length v) p → Contains (reverse tips_back) v
  reached v p within long hit pair =
      let parts = and_parts (can_shift bounds v p) (same_vector (shifted v p) x) hit in
      let is : shifted v p ≡ x = (bytes_decides (shifted v p) x).0 parts.1 in
      let back : returned x p ≡ v = sym (ap (λ w. returned w p) is) ∙ returned-shifted bounds v p pair parts.0 in
      let can : can_return bounds x p ≡ true = subst (λ w. can_return bounds w p ≡ true) is (can_return-shifted bounds v p pair within parts.0) in
      let pair_x : IsPair (length x) p = (pair.0, omega (arith, pair.1, long)) in
      Contains-reverse tips_back v
      (subst (Contains tips_back) back
      (Contains-image (returned x) (filter (can_return bounds x) (pairs_back (length x))) p
      (Contains-passing (can_return bounds x) (pairs_back (length x)) p can (in_pairs_back (length x) p pair_x))))

  all_reached : (after : List (List ℕ)) → All (λ v. IsWithin v bounds × (length v ≡ length x)) after → All (Contains (reverse tips_back)) (flat_map tips_to after)
  all_reached after members =
      All-flat_map (Contains (reverse tips_back)) tips_to after
      (λ k d within.
      let v = get_or after k d in
      let pairs = pairs_of_places (length v) in
      let is = members k d within in
      All-map (Contains (reverse tips_back)) (λ at. v) (filter (hits v) pairs)
      (λ i e inside. reached v (get_or (filter (hits v) pairs) i e) is.0 is.1 (filter_passes (hits v) pairs i e inside) (All-filter (hits v) (IsPair (length v)) pairs (all_pairs-are (length v)) i e inside)))

  -- and what x becomes is reached
  becomes : (after : List (List ℕ)) (p : Places) → IsWithin x bounds → ((v : List ℕ) → IsWithin v bounds → sum v ≡ sum x → IsBefore x v → Contains after v) → can_return bounds x p ≡ true → IsPair (length x) p → Contains (flat_map tips_to after) (returned x p)
  becomes after p within member can pair =
      let v = returned x p in
      let stays = returned-in_sum bounds x p pair within can in
      let pair_v : IsPair (length v) p = (pair.0, omega (arith, pair.1, length-returned bounds x p pair)) in
      let is : shifted v p ≡ x = shifted-returned bounds x p pair can in
      let can_v : can_shift bounds v p ≡ true = can_shift-returned bounds x p pair within can in
      let before : IsBefore x v = subst (λ w. IsBefore w v) is (shifted-before bounds v p pair_v can_v) in
      Contains-flat_map tips_to after v v (member v stays.0 stays.1 before)
      (Contains-image (λ at. v) (filter (hits v) (pairs_of_places (length v))) p
      (Contains-passing (hits v) (pairs_of_places (length v)) p (and_from (can_shift bounds v p) (same_vector (shifted v p) x) can_v ((bytes_decides (shifted v p) x).1 is)) (in_all_pairs (length v) p pair_v)))

  all_become : (after : List (List ℕ)) → IsWithin x bounds → ((v : List ℕ) → IsWithin v bounds → sum v ≡ sum x → IsBefore x v → Contains after v) → All (Contains (flat_map tips_to after)) (reverse tips_back)
  all_become after within member =
      let pairs = pairs_back (length x) in
      All-reverse (Contains (flat_map tips_to after)) tips_back
      (All-map (Contains (flat_map tips_to after)) (returned x) (filter (can_return bounds x) pairs)
      (λ i e inside. becomes after (get_or (filter (can_return bounds x) pairs) i e) within member (filter_passes (can_return bounds x) pairs i e inside) (All-filter (can_return bounds x) (IsPair (length x)) pairs (pairs_back-are (length x)) i e inside)))

  -- both parts of the list
  both_parts : (directed : Bool) → arcs_back bounds x (pairs_back (length x)) ++ own_arcs directed (pairs_of_places (length x)) ≡ arcs_by_pairs directed bounds x
  both_parts directed = grind (arith, append-nil)

  -- the list of x, where the vectors before it and after it are known
  list_in_two : (directed : Bool) (before after : List (List ℕ)) → IsRising (before ++ x ∷ after) → IsWithin x bounds
      → All (λ v. IsWithin v bounds × (length v ≡ length x)) after
      → ((v : List ℕ) → IsWithin v bounds → sum v ≡ sum x → IsBefore x v → Contains after v)
      → arcs_of_moves directed x (flat_map (moves_to bounds) (before ++ x ∷ after)) ≡ arcs_by_pairs directed bounds x
  list_in_two directed before after rise within members member =
      let early = rising-before before after x rise in
      let from_x = rising-from before after x rise in
      let late = AllPairs-first IsBefore x after from_x in
      let moves = flat_map (moves_to bounds) in
      let others_before : All (λ v. same_vector v x ≡ false) before = grind (arith, All-weaker, other_is, before_none) in
      let others_after : All (λ v. same_vector v x ≡ false) after = grind (arith, All-weaker, other_is, before_none) in
      let none : flat_map tips_to before ≡ [] = grind (arith, flat_map-none, tips_to, All-weaker, none_before) in
      let same : flat_map tips_to after ≡ reverse tips_back = search (rules, rising_same, tips_to, reverse, tips_back, tips-rise, AllPairs-others, tips_back-rise, all_reached, all_become, IsBefore) in
      let first : arcs_of_moves directed x (moves after) ≡ arcs_back bounds x (pairs_back (length x)) = grind (arith, moves_to_others, unit_arc, reverse, reverse-reverse, tips_back, map-map) in
      search (rules, own_arcs, own_moves, all_pairs-are, moves_to_others, unit_arc, reverse, flat_map-append, arcs-append, append-nil, both_parts, arcs_of_moves, moves_to, pairs_of_places, early, from_x, late, moves, others_before, others_after, none, same, first)

-- the list of a vector of a bounded sum
arcs_in_sum : (directed : Bool) (total : ℕ) (bounds x : List ℕ) → Contains (bounded_sums total bounds) x → arcs_of_moves directed x (flat_map (moves_to bounds) (bounded_sums total bounds)) ≡ arcs_by_pairs directed bounds x
arcs_in_sum directed total bounds x h =
    let vectors = bounded_sums total bounds in
    let here = (Contains-bounded_sums total bounds x).0 h in
    let s = split_at vectors x h in
    let before = s.0 in
    let after = s.1 in
    let rise : IsRising (before ++ x ∷ after) = subst IsRising s.2 (bounded_sums-rise total bounds) in
    let long : length x ≡ length bounds = length_all_zip (λ a b. a ≤ b) x bounds here.0 in
    let all : All (Contains vectors) after =
    All-tail (Contains vectors) x after (All-behind (Contains vectors) before (x ∷ after) (subst (All (Contains vectors)) s.2 (All-contains_itself vectors))) in
    let members : All (λ v. IsWithin v bounds × (length v ≡ length x)) after =
    All-weaker (Contains vectors) (λ v. IsWithin v bounds × (length v ≡ length x))
    (λ v there. let is = (Contains-bounded_sums total bounds v).0 there in (is.0, length_all_zip (λ a b. a ≤ b) v bounds is.0 ∙ sym long)) after all in
    ap (λ vs. arcs_of_moves directed x (flat_map (moves_to bounds) vs)) s.2
    ∙ list_in_two bounds x directed before after rise here.0 members
    (λ v within same later.
    let there : Contains (before ++ x ∷ after) v = subst (λ vs. Contains vs v) s.2 ((Contains-bounded_sums total bounds v).1 (within, same ∙ here.1)) in
    elim (Contains-append_cases before (x ∷ after) v there) [
      | inl early ↦ absurd (before_none x (before_trans x v x later (All-contains (λ w. IsBefore w x) before v (rising-before before after x rise) early)))
      | inr late ↦ grind (arith, Contains-cases, before_none)
    ])

-- both ends of each move are vectors of the simplex
pub ends_in_simplex : (s : SimplexData) → All (HasEnds (simplex_vectors s)) (flat_map (moves_to s.sum.bounds) (simplex_vectors s))
ends_in_simplex s =
    let vectors = simplex_vectors s in
    let bounds = s.sum.bounds in
    All-flat_map (HasEnds vectors) (moves_to bounds) vectors
    (λ k d within.
    let v = get_or vectors k d in
    let there : Contains vectors v = All-contains_itself vectors k d within in
    let pairs = pairs_of_places (length v) in
    All-map (HasEnds vectors) (move_by v) (filter (can_shift bounds v) pairs)
    (λ i e inside.
    let p = get_or (filter (can_shift bounds v) pairs) i e in
    let pair : IsPair (length v) p = All-filter (can_shift bounds v) (IsPair (length v)) pairs (all_pairs-are (length v)) i e inside in
    (shifted_in_simplex s v p there pair.0 pair.1 (filter_passes (can_shift bounds v) pairs i e inside), there)))

-- the list of a vector of a simplex is made by pairs of its places
pub list_by_pairs : (s : SimplexData) (x : List ℕ) → Contains (simplex_vectors s) x → list_at s.directed (simplex_vectors s) (moves_of_simplex s) x ≡ arcs_by_pairs s.directed s.sum.bounds x
unfolding moves_of_simplex
list_by_pairs s x h = search (rules, list_at-moves, bounded_sums-rise, ends_in_simplex, arcs_in_sum)
