-- The events of subsets, as their moves are made one after another.
use Rattle.std.proofs.Common.{◌≡◌, ℕ, ◌+◌, ◌-◌, ◌<◌, ◌≤◌, pos, Bool, true, false, cond, List, [], ◌∷◌, ◌++◌, length, map, filter, reverse, take, Some, refl, sym, ap, ap₂, subst, ◌∙◌, arith}
use Rattle.std.specs.List.{All, Contains, flat_map, range_with_len, slice_get}
use Rattle.std.proofs.lemmas.List.{get_or-take, length-take, map-append, reverse-append}
use Rattle.std.proofs.lemmas.List.Elements.{All-contains_itself, All-filter, All-map}
use Rattle.std.proofs.lemmas.Option.{slice_get_within, get_or_from_slice_get}
use Rattle.sgb_vec.proofs.Lists.{All-reverse, reverse-first}
use Rattle.sgb_vec.proofs.SumMembers.{Contains-bounded_sums, bounded_sums-rise}
use Rattle.sgb_graph.specs.Events.{Event}
use Rattle.sgb_gen.specs.LocalLists.{LocalArc}
use Rattle.sgb_gen.specs.VectorGraphs.{event_among, vertex_among}
use Rattle.sgb_gen.specs.Subsets.{SubsetsData, common_size, is_wanted_size, moves_to_place, subsets_vectors, moves_of_subsets}
use Rattle.sgb_gen.specs.inner.Descents.{arcs_under, down_from}
use Rattle.sgb_gen.specs.inner.LocalSubsets.{events_onto}
use Rattle.sgb_gen.proofs.DescentArcs.{from-taken, under-append}
use Rattle.sgb_gen.proofs.FamilyWalks.{map-flat_map, take_at_vector}
use Rattle.sgb_gen.proofs.RisingVectors.{vertex_in_rising}
use Rattle.sgb_gen.proofs.SubsetsLists.{common-turned, taken}

-- a vector that stands among them is one of them
pub is_among : (vectors : List (List ℕ)) (i : ℕ) (u : List ℕ) → slice_get vectors i ≡ Some u → Contains vectors u
is_among vectors i u at = (i, slice_get_within vectors i u at, get_or_from_slice_get vectors i u u at)

-- the vertices of subsets by their vectors
pub vertex_in_sum : (s : SubsetsData) (v : List ℕ) (i : ℕ) → slice_get (subsets_vectors s) i ≡ Some v → vertex_among (subsets_vectors s) v ≡ i
vertex_in_sum s v i at = vertex_in_rising (subsets_vectors s) i v (bounded_sums-rise s.sum.total s.sum.bounds) at

-- the vector where an arc leads, where all lead to vectors
pub arc-among : (vectors : List (List ℕ)) (arcs : List LocalArc) (k : ℕ) (arc : LocalArc) → All (λ a. Contains vectors a.tip) arcs → slice_get arcs k ≡ Some arc → Contains vectors arc.tip
arc-among vectors arcs k arc all at = subst (λ a. Contains vectors a.tip) (get_or_from_slice_get arcs k arc arc at) (all k arc (slice_get_within arcs k arc at))

-- ---- the events of arcs, the last one first

pub onto-append : (vectors : List (List ℕ)) (v : ℕ) (xs ys : List LocalArc) → events_onto vectors v (xs ++ ys) ≡ events_onto vectors v ys ++ events_onto vectors v xs
onto-append vectors v xs ys =
    let event : LocalArc → Event = λ arc. record { from = vertex_among vectors arc.tip; to = v; len = pos 1 } in
    ap (map event) (reverse-append xs ys) ∙ map-append event (reverse ys) (reverse xs)

-- the last one of the first k comes first
pub onto-next : (vectors : List (List ℕ)) (v k : ℕ) (arcs : List LocalArc) (arc : LocalArc) → 0 < k → slice_get arcs (k - 1) ≡ Some arc
    → events_onto vectors v (take k arcs) ≡ record { from = vertex_among vectors arc.tip; to = v; len = pos 1 } ∷ events_onto vectors v (take (k - 1) arcs)
onto-next vectors v k arcs arc some at =
    ap (λ n. events_onto vectors v (take n arcs)) {y = k - 1 + 1} (omega (arith, some))
    ∙ ap (events_onto vectors v) (take_at_vector arcs (k - 1) arc at)
    ∙ onto-append vectors v (take (k - 1) arcs) (arc ∷ [])

-- ---- the events to a vertex

-- the events to v from these vectors, of those that have a wanted size in common with it
abbrev events_to : SubsetsData → List ℕ → List (List ℕ) → List Event
events_to s v us =
    map (event_among (subsets_vectors s)) (map (λ u. record { from = u; to = v; len = 1 }) (filter (λ u. is_wanted_size s.size_bits (common_size u v)) us))

-- those of the arcs of v to these vectors, the last one first
abbrev events_back : SubsetsData → ℕ → List ℕ → List (List ℕ) → List Event
events_back s j v us = events_onto (subsets_vectors s) j (arcs_under s.size_bits [] 0 v us)

to-first : (s : SubsetsData) (j : ℕ) (v u : List ℕ) (us : List (List ℕ)) → vertex_among (subsets_vectors s) v ≡ j → events_back s j v (u ∷ []) ++ events_to s v us ≡ events_to s v (u ∷ us)
to-first s j v u us there = by (is_wanted_size s.size_bits (common_size u v)) refl where
  by : (b : Bool) → is_wanted_size s.size_bits (common_size u v) ≡ b → events_back s j v (u ∷ []) ++ events_to s v us ≡ events_to s v (u ∷ us)
  by b e =
      let turned : is_wanted_size s.size_bits (common_size v u + 0) ≡ b = ap (is_wanted_size s.size_bits) {x = common_size v u + 0} {y = common_size u v} (omega (arith, common-turned u v)) ∙ e in
      grind (arith, reverse, e, turned, there)

back-to : (s : SubsetsData) (j : ℕ) (v : List ℕ) (us : List (List ℕ)) → vertex_among (subsets_vectors s) v ≡ j → events_back s j v (reverse us) ≡ events_to s v us
back-to s j v [] there = refl
back-to s j v (u ∷ us) there =
    let under = arcs_under s.size_bits [] 0 v in
    ap (λ l. events_back s j v l) (reverse-first u us)
    ∙ ap (events_onto (subsets_vectors s) j) (under-append s.size_bits [] 0 v (reverse us) (u ∷ []))
    ∙ onto-append (subsets_vectors s) j (under (reverse us)) (under (u ∷ []))
    ∙ ap (λ l. events_back s j v (u ∷ []) ++ l) (back-to s j v us there)
    ∙ to-first s j v u us there

-- the vectors from one down to the first
down-taken : (s : SubsetsData) (j : ℕ) (v : List ℕ) → slice_get (subsets_vectors s) j ≡ Some v → down_from s.sum.bounds v ≡ reverse (take (j + 1) (subsets_vectors s))
down-taken s j v at =
    let is = (Contains-bounded_sums s.sum.total s.sum.bounds v).0 (is_among (subsets_vectors s) j v at) in
    grind (arith, from-taken, is, vertex_in_sum s v j at)

-- the arcs down to it lead to vectors
pub down-among : (s : SubsetsData) (j : ℕ) (v : List ℕ) → slice_get (subsets_vectors s) j ≡ Some v → All (λ arc. Contains (subsets_vectors s) arc.tip) (arcs_under s.size_bits [] 0 v (down_from s.sum.bounds v))
down-among s j v at =
    let vectors = subsets_vectors s in
    rw (down-taken s j v at)
    (All-map (λ arc. Contains vectors arc.tip) (λ u. record { tip = u; len = pos 1 }) _
    (All-filter (λ u. is_wanted_size s.size_bits (common_size v u + 0)) (Contains vectors) (reverse (take (j + 1) vectors))
    (All-reverse (Contains vectors) (take (j + 1) vectors) (taken (j + 1) vectors))))

-- the events of the moves to place j
abbrev pub events_at : SubsetsData → ℕ → List Event
events_at s j = map (event_among (subsets_vectors s)) (moves_to_place s.size_bits (subsets_vectors s) j)

-- they are those of the arcs from its vector down to the first one
pub events_at-arcs : (s : SubsetsData) (v : List ℕ) (j : ℕ) → slice_get (subsets_vectors s) j ≡ Some v
    → events_onto (subsets_vectors s) j (arcs_under s.size_bits [] 0 v (down_from s.sum.bounds v)) ≡ events_at s j
events_at-arcs s v j at =
    ap (events_back s j v) (down-taken s j v at)
    ∙ back-to s j v (take (j + 1) (subsets_vectors s)) (vertex_in_sum s v j at)
    ∙ ap (λ w. events_to s w (take (j + 1) (subsets_vectors s))) (sym (get_or_from_slice_get (subsets_vectors s) j v [] at))

-- the events from place j on
abbrev pub events_from_place : SubsetsData → ℕ → List Event
events_from_place s j = flat_map (events_at s) (range_with_len j (length (subsets_vectors s) - j))

-- those at it come first
pub events_from_place-next : (s : SubsetsData) (j : ℕ) → j < length (subsets_vectors s) → events_from_place s j ≡ events_at s j ++ events_from_place s (j + 1)
events_from_place-next s j h = grind (arith, events_at)

-- at last none are left
pub events_from_place-none : (s : SubsetsData) (j : ℕ) → length (subsets_vectors s) ≤ j → events_from_place s j ≡ []
events_from_place-none s j h = grind (arith, events_at)

-- all of them are the definition's
pub events_of-subsets : (s : SubsetsData) → events_from_place s 0 ≡ map (event_among (subsets_vectors s)) (moves_of_subsets s)
unfolding moves_of_subsets
events_of-subsets s = grind (arith, map-flat_map)
