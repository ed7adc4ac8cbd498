-- The list of a vector of subsets is made by a walk over the vectors, from the last one back.
use Rattle.std.proofs.Common.{rules, ◌≡◌, ℕ, ◌+◌, ◌<◌, min, pos, Bool, true, false, cond, List, [], ◌∷◌, ◌++◌, length, map, filter, reverse, take, drop, get_or, Some, refl, sym, ap, ap₂, subst, ◌∙◌, arith, append-nil, append_assoc}
use Rattle.std.specs.Cmp.Lexicographic.{bytes_decides}
use Rattle.std.specs.List.{All, Contains, flat_map, range_with_len, slice_get}
use Rattle.std.proofs.Math.Seq.{get_or-append_seam, take-append-add}
use Rattle.std.proofs.lemmas.List.{get_or-drop, get_or-take, length-append, length-drop, length-take, reverse-append, take-append-drop}
use Rattle.std.proofs.lemmas.List.Elements.{All-append, All-cons, All-contains_itself, All-filter, All-head, All-map, All-nil, All-tail}
use Rattle.std.proofs.lemmas.Option.{get_or_from_slice_get, slice_get_read, slice_get_within}
use Rattle.sgb_vec.specs.Lexicographic.{IsBefore, IsRising}
use Rattle.sgb_vec.proofs.SumMembers.{bounded_sums-rise}
use Rattle.sgb_moves.specs.VectorMoves.{Move, same_vector}
use Rattle.sgb_gen.specs.VectorGraphs.{HasEnds, vertex_among}
use Rattle.sgb_gen.specs.Subsets.{SubsetsData, common_size, is_wanted_size, moves_to_place, subsets_vectors, moves_of_subsets}
use Rattle.sgb_gen.specs.inner.LocalArcs.{arc_if, arcs_by, arcs_of_moves}
use Rattle.sgb_gen.specs.LocalLists.{LocalArc, list_at}
use Rattle.sgb_gen.specs.inner.LocalSubsets.{arcs_to, arcs_by_walk}
use Rattle.sgb_gen.proofs.FamilyWalks.{drop_at_vector, take_at_vector}
use Rattle.sgb_gen.proofs.MoveLists.{list_at-moves, arcs-append}
use Rattle.sgb_vec.proofs.Lists.{All-flat_map, made-append, range-within, reverse-first}
use Rattle.sgb_gen.proofs.OrderedLists.{before_none}
use Rattle.sgb_gen.proofs.RisingVectors.{vertex_in_rising}
use Rattle.sgb_gen.proofs.Vertices.{other_is}

-- either multiset may stand first
pub common-turned : (u v : List ℕ) → common_size u v ≡ common_size v u
common-turned [] [] = refl
common-turned [] (y ∷ v) = refl
common-turned (x ∷ u) [] = refl
common-turned (x ∷ u) (y ∷ v) = omega (arith, common-turned u v)

-- an element that is made where a test passes
made_if : (b : Bool) (v : List ℕ) → map {B = LocalArc} (λ y. record { tip = y; len = pos 1 }) (cond b (v ∷ []) []) ≡ cond b (record { tip = v; len = pos 1 } ∷ []) []
made_if b v = grind (arith)

none_if : (b : Bool) → cond {A = List LocalArc} b [] [] ≡ []
none_if b = grind (arith)

-- the vectors up to one
abbrev and_one : List (List ℕ) → List ℕ → List (List ℕ)
and_one vs v = vs ++ v ∷ []

-- where sizes are wanted, the list of x
module _ (size_bits : ℕ) (x : List ℕ) where
  abbrev wanted : List ℕ → List ℕ → Bool
  wanted u v = is_wanted_size size_bits (common_size u v)

  wanted-turned : (u v : List ℕ) → wanted u v ≡ wanted v u
  wanted-turned u v = ap (is_wanted_size size_bits) (common-turned u v)

  abbrev unit_move : List ℕ → List ℕ → Move
  unit_move v u = record { from = u; to = v; len = 1 }

  -- the moves to v from these vectors
  abbrev moves_onto : List ℕ → List (List ℕ) → List Move
  moves_onto v us = map (λ u. record { from = u; to = v; len = 1 }) (filter (λ u. is_wanted_size size_bits (common_size u v)) us)

  onto-append : (v : List ℕ) (us ws : List (List ℕ)) → moves_onto v (us ++ ws) ≡ moves_onto v us ++ moves_onto v ws
  onto-append v us ws = made-append (λ u. wanted u v) (unit_move v) us ws

  -- the arcs to some vectors and then others
  to-append : (us ws : List (List ℕ)) → arcs_to size_bits x (us ++ ws) ≡ arcs_to size_bits x us ++ arcs_to size_bits x ws
  to-append us ws = made-append (λ y. wanted x y) (λ y. record { tip = y; len = pos 1 }) us ws

  to-one : (v : List ℕ) → arcs_to size_bits x (v ∷ []) ≡ cond (wanted x v) (record { tip = v; len = pos 1 } ∷ []) []
  to-one v = made_if (wanted x v) v

  -- to these vectors from the last one back
  back-first : (v : List ℕ) (vs : List (List ℕ)) → arcs_to size_bits x (reverse (v ∷ vs)) ≡ arcs_to size_bits x (reverse vs) ++ arcs_to size_bits x (v ∷ [])
  back-first v vs = ap (arcs_to size_bits x) (reverse-first v vs) ∙ to-append (reverse vs) (v ∷ [])

  back-last : (vs : List (List ℕ)) (v : List ℕ) → arcs_to size_bits x (reverse (vs ++ v ∷ [])) ≡ arcs_to size_bits x (v ∷ []) ++ arcs_to size_bits x (reverse vs)
  back-last vs v = ap (arcs_to size_bits x) (reverse-append vs (v ∷ [])) ∙ to-append (v ∷ []) (reverse vs)

  -- a vector is another than x
  abbrev Differs : List ℕ → Type 0
  Differs v = same_vector v x ≡ false

  -- the arcs by a move, by whether its start and its end are x
  abbrev touching : Bool → Bool → Bool → List ℕ → List ℕ → List LocalArc
  touching true a b u v = arc_if a v 1
  touching false a b u v = arc_if a v 1 ++ arc_if b u 1

  by_move : (directed a b : Bool) (u v : List ℕ) → same_vector u x ≡ a → same_vector v x ≡ b → arcs_by directed x (unit_move v u) ≡ touching directed a b u v
  by_move directed a b u v is_a is_b = grind (arith)

  one_move : (directed : Bool) (u v : List ℕ) (w : Bool) → w ≡ wanted u v → arcs_of_moves directed x (map (unit_move v) (cond w (u ∷ []) [])) ≡ cond w (arcs_by directed x (unit_move v u)) []
  one_move directed u v w is = grind (arith)

  -- the moves to v from u and then from others
  onto_first : (directed a b : Bool) (u v : List ℕ) (us : List (List ℕ)) → same_vector u x ≡ a → same_vector v x ≡ b
      → arcs_of_moves directed x (moves_onto v (u ∷ us)) ≡ arcs_of_moves directed x (moves_onto v us) ++ cond (wanted u v) (touching directed a b u v) []
  onto_first directed a b u v us is_a is_b = search (rules, onto-append, arcs-append, moves_onto, one_move, wanted, by_move)

  -- of moves between other vectors there are none
  untouched : (directed : Bool) (u v : List ℕ) (w : Bool) → cond w (touching directed false false u v) [] ≡ []
  untouched directed u v w = grind (arith, none_if)

  others : (directed : Bool) (v : List ℕ) (us : List (List ℕ)) → Differs v → All Differs us → arcs_of_moves directed x (moves_onto v us) ≡ []
  others directed v [] other differ = refl
  others directed v (u ∷ us) other differ = grind (arith, onto_first, All-head, Differs, All-tail, untouched, wanted, others directed v us other (All-tail Differs u us differ))

  x_itself : same_vector x x ≡ true
  x_itself = (bytes_decides x x).1 refl

  -- from x to another vector there is one
  outward : (directed : Bool) (v : List ℕ) (w : Bool) → cond w (touching directed true false x v) [] ≡ cond w (record { tip = v; len = pos 1 } ∷ []) []
  outward directed v w = grind (arith)

  from_x : (directed : Bool) (v : List ℕ) (us ws : List (List ℕ)) → Differs v → All Differs us → All Differs ws → arcs_of_moves directed x (moves_onto v (us ++ x ∷ ws)) ≡ arcs_to size_bits x (v ∷ [])
  from_x directed v us ws other before after = grind (arith, onto-append, arcs-append, onto_first, x_itself, others, outward, append-nil, to-one)

  -- to x from other vectors there is one each in an undirected graph
  abbrev inward : Bool → List (List ℕ) → List LocalArc
  inward true us = []
  inward false us = arcs_to size_bits x (reverse us)

  inward_first : (directed : Bool) (u : List ℕ) (us : List (List ℕ)) → inward directed us ++ cond (wanted u x) (touching directed false true u x) [] ≡ inward directed (u ∷ us)
  inward_first directed u us = grind (arith, none_if, wanted, wanted-turned, to-one, back-first)

  onto_x : (directed : Bool) (us : List (List ℕ)) → All Differs us → arcs_of_moves directed x (moves_onto x us) ≡ inward directed us
  onto_x true [] differ = refl
  onto_x false [] differ = refl
  onto_x directed (u ∷ us) differ =
      cc (onto_first directed false true u x us (All-head Differs u us differ) x_itself, onto_x directed us (All-tail Differs u us differ), inward_first directed u us)

  -- at x: its loop once or twice, and the moves to it
  abbrev own_arcs : Bool → List (List ℕ) → List LocalArc
  own_arcs true us = arcs_to size_bits x (x ∷ [])
  own_arcs false us = arcs_to size_bits x (x ∷ []) ++ (arcs_to size_bits x (x ∷ []) ++ arcs_to size_bits x (reverse us))

  twice_if : (w : Bool) (l : List LocalArc) → cond w (l ++ l) [] ≡ cond w l [] ++ cond w l []
  twice_if w l = grind (arith)

  own_join : (directed : Bool) (us : List (List ℕ)) → cond (wanted x x) (touching directed true true x x) [] ++ inward directed us ≡ own_arcs directed us
  own_join directed us = grind (arith, append-nil, cond, wanted, to-one, twice_if, append_assoc, inward)

  at_x : (directed : Bool) (us : List (List ℕ)) → All Differs us → arcs_of_moves directed x (moves_onto x (us ++ x ∷ [])) ≡ own_arcs directed us
  at_x directed us differ = grind (arith, onto-append, arcs-append, onto_first, x_itself, onto_x, own_join)

  -- the moves to these vectors, each from those before it
  abbrev moves_over : List (List ℕ) → List (List ℕ) → List Move
  moves_over before [] = []
  moves_over before (v ∷ vs) = moves_onto v (and_one before v) ++ moves_over (and_one before v) vs

  -- to the vectors after x
  after_x : (directed : Bool) (us ws vs : List (List ℕ)) → All Differs us → All Differs ws → All Differs vs → arcs_of_moves directed x (moves_over (us ++ x ∷ ws) vs) ≡ arcs_to size_bits x (reverse vs)
  after_x directed us ws [] before between differ = refl
  after_x directed us ws (v ∷ vs) before between differ =
      let other = All-head Differs v vs differ in
      let apart = All-append Differs ws (v ∷ []) between (All-cons Differs v [] other (All-nil Differs)) in
      grind (arith, and_one, append_assoc, moves_onto, moves_over, arcs-append, All-tail, Differs, from_x, back-first, other, apart, after_x directed us (and_one ws v) vs before apart (All-tail Differs v vs differ))

  -- to all vectors, with x among them
  over_all : (directed : Bool) (before us after : List (List ℕ)) → All Differs before → All Differs us → All Differs after
      → arcs_of_moves directed x (moves_over before (us ++ x ∷ after)) ≡ arcs_to size_bits x (reverse after) ++ own_arcs directed (before ++ us)
  over_all directed before [] after h differ later = grind (arith, arcs-append, moves_onto, and_one, moves_over, after_x, All-nil, Differs, at_x, reverse, own_arcs, append-nil)
  over_all directed before (u ∷ us) after h differ later =
      let other = All-head Differs u us differ in
      let apart = All-append Differs before (u ∷ []) h (All-cons Differs u [] other (All-nil Differs)) in
      grind (arith, arcs-append, moves_onto, and_one, moves_over, All-tail, Differs, others, append-nil, reverse, own_arcs, append_assoc, other, apart, over_all directed (and_one before u) us after apart (All-tail Differs u us differ) later)

  -- the moves of the definition are these
  moves_are : (before vs : List (List ℕ)) → flat_map (moves_to_place size_bits (before ++ vs)) (range_with_len (length before) (length vs)) ≡ moves_over before vs
  moves_are before [] = refl
  moves_are before (v ∷ vs) = grind (arith, and_one, append_assoc, get_or-append_seam, take-append-add, length-append, moves_onto, moves_are (and_one before v) vs)

  -- so the list is the walk's, with the vectors before x and after it
  walked : (directed : Bool) (before after : List (List ℕ)) → arcs_to size_bits x (reverse after) ++ own_arcs directed before
      ≡ cond directed (arcs_to size_bits x (reverse (x ∷ after))) (arcs_to size_bits x (reverse (x ∷ after)) ++ arcs_to size_bits x (reverse (and_one before x)))
  walked directed before after = grind (arith, back-first, append_assoc, reverse, back-last)

  by_walk : (directed : Bool) (vectors : List (List ℕ)) → arcs_by_walk directed size_bits vectors x
      ≡ cond directed (arcs_to size_bits x (reverse (drop (vertex_among vectors x) vectors))) (arcs_to size_bits x (reverse (drop (vertex_among vectors x) vectors)) ++ arcs_to size_bits x (reverse (take (vertex_among vectors x + 1) vectors)))
  by_walk directed vectors = grind (arith)

  pub moves-walked : (directed : Bool) (vectors : List (List ℕ)) (p : ℕ) → slice_get vectors p ≡ Some x → vertex_among vectors x ≡ p → All Differs (take p vectors) → All Differs (drop (p + 1) vectors)
      → arcs_of_moves directed x (flat_map (moves_to_place size_bits vectors) (range_with_len 0 (length vectors))) ≡ arcs_by_walk directed size_bits vectors x
  moves-walked directed vectors p at vertex earlier later =
      let back : drop p vectors ≡ x ∷ drop (p + 1) vectors = drop_at_vector vectors p x at in
      let front : take (p + 1) vectors ≡ and_one (take p vectors) x = take_at_vector vectors p x at in
      let whole : vectors ≡ take p vectors ++ x ∷ drop (p + 1) vectors = sym (take-append-drop p vectors) ∙ ap (λ l. take p vectors ++ l) back in
      ap (arcs_of_moves directed x) (moves_are [] vectors)
      ∙ ap (λ l. arcs_of_moves directed x (moves_over [] l)) whole
      ∙ over_all directed [] (take p vectors) (drop (p + 1) vectors) (All-nil Differs) earlier later
      ∙ walked directed (take p vectors) (drop (p + 1) vectors)
      ∙ ap₂ (λ b f. cond directed (arcs_to size_bits x (reverse b)) (arcs_to size_bits x (reverse b) ++ arcs_to size_bits x (reverse f))) (sym back) (sym front)
      ∙ ap (λ k. cond directed (arcs_to size_bits x (reverse (drop k vectors))) (arcs_to size_bits x (reverse (drop k vectors)) ++ arcs_to size_bits x (reverse (take (k + 1) vectors)))) (sym vertex)
      ∙ sym (by_walk directed vectors)

-- in rising vectors those at other places are others
module _ (vectors : List (List ℕ)) (p : ℕ) (x : List ℕ) (rise : IsRising vectors) (at : slice_get vectors p ≡ Some x) where
  differs_at : (k : ℕ) (d : List ℕ) → k < p → same_vector (get_or vectors k d) x ≡ false
  differs_at k d less =
      let there : get_or vectors p d ≡ x = get_or_from_slice_get vectors p x d at in
      let before : IsBefore (get_or vectors k d) x = subst (IsBefore (get_or vectors k d)) there (rise k p d less (slice_get_within vectors p x at)) in
      other_is (get_or vectors k d) x (λ e. before_none x (subst (λ y. IsBefore y x) e before))

  differs_after : (k : ℕ) (d : List ℕ) → p < k → k < length vectors → same_vector (get_or vectors k d) x ≡ false
  differs_after k d more within =
      let there : get_or vectors p d ≡ x = get_or_from_slice_get vectors p x d at in
      let after : IsBefore x (get_or vectors k d) = subst (λ y. IsBefore y (get_or vectors k d)) there (rise p k d more within) in
      other_is (get_or vectors k d) x (λ e. before_none x (subst (IsBefore x) e after))

  earlier_differ : All (λ v. same_vector v x ≡ false) (take p vectors)
  earlier_differ k d within = grind (arith, length-take, get_or-take, differs_at)

  later_differ : All (λ v. same_vector v x ≡ false) (drop (p + 1) vectors)
  later_differ k d within = grind (arith, get_or-drop, differs_after, length-drop)

-- the vectors up to a place are vectors
pub taken : (n : ℕ) (vectors : List (List ℕ)) → All (Contains vectors) (take n vectors)
taken n vectors k d within =
    let less : k < min n (length vectors) = omega (arith, length-take n vectors, within) in
    subst (Contains vectors) (sym (get_or-take n vectors k d (omega (arith, less)))) (All-contains_itself vectors k d (omega (arith, less)))

-- so both ends of each move are vertices
ends_at_place : (size_bits : ℕ) (vectors : List (List ℕ)) (i : ℕ) → i < length vectors → All (HasEnds vectors) (moves_to_place size_bits vectors i)
ends_at_place size_bits vectors i within = search (rules, All-map, All-filter, taken, All-contains_itself)

pub moves_have_ends : (s : SubsetsData) → All (HasEnds (subsets_vectors s)) (moves_of_subsets s)
unfolding moves_of_subsets
moves_have_ends s =
    let vectors = subsets_vectors s in
    All-flat_map (HasEnds vectors) (moves_to_place s.size_bits vectors) (range_with_len 0 (length vectors))
    (λ k d within. ends_at_place s.size_bits vectors (get_or (range_with_len 0 (length vectors)) k d) (omega (arith, (range-within 0 (length vectors) k d within).1)))

-- the list of x is made by the walk
pub list_by_walk : (s : SubsetsData) (x : List ℕ) → Contains (subsets_vectors s) x → list_at s.directed (subsets_vectors s) (moves_of_subsets s) x ≡ arcs_by_walk s.directed s.size_bits (subsets_vectors s) x
unfolding moves_of_subsets
list_by_walk s x (p, within, there) =
    let vectors = subsets_vectors s in
    let at : slice_get vectors p ≡ Some x = slice_get_read vectors (length vectors) p x refl within (sym there) in
    search (rules, bounded_sums-rise, list_at-moves, moves_have_ends, moves-walked, vertex_in_rising, earlier_differ, later_differ, vectors, at)
