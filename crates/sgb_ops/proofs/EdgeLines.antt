-- The lines of a graph of edges: one for each edge, and each has its way back.
use Rattle.sgb_vec.proofs.Common.{rules, ◌≡◌, ◌≢◌, ◌+◌, ◌*◌, ◌/◌, ◌≤◌, ◌<◌, ◌==◌, ℕ, zero, suc, min, Bool, true, false, not, cond, nat_lt, List, [], ◌∷◌, map, reverse, length, refl, sym, ap, ◌∙◌, arith, All, All-weaker, Ok, Err, filter, slice_get, if◌then◌else◌, enumerate_from, list_all, option_map_or, and_from, cond_both, eq-eqb, lt-ltb, le-ltb, nat_tests, length-append, length-map, length-reverse, AllPass-from_list_all, list_all-from_AllPass, list_all-map, slice_get-map}
use Rattle.sgb_vec.proofs.Lists.{All-reverse, filter-all, filter-none, range-within}
use Rattle.sgb_vec.specs.Limits.{most_vertices}
use Rattle.sgb_vec.specs.Results.{and_then}
use Rattle.sgb_vec.specs.declared.panics.Panic.TheVariants.{VeryBad, Invalid}
use Rattle.sgb_graph.specs.Graphs.{GraphData}
use Rattle.sgb_graph.specs.Descriptions.{Description}
use Rattle.sgb_graph.specs.Events.{Event, HasArcsOf, HasEndsBelow, all_records}
use Rattle.sgb_graph.specs.declared.fields.ArcRec.{ArcRec}
use Rattle.sgb_graph.specs.declared.fields.Ref.{Ref}
use Rattle.sgb_graph.specs.declared.fields.Ref.TheVariants.{At}
use Rattle.sgb_ops.specs.Lines.{has_way_back, is_of_edges, line_graph_of, lines_of_graph}
use Rattle.sgb_graph.specs.Vertices.{order_of, places_of}
use Rattle.sgb_taken.specs.Taken.{edges_up_from, lower_record, taken}
use Rattle.sgb_ops.specs.declared.line_graphs.line.Line.{Line}
use Rattle.sgb_ops.specs.inner.Lines.{points_to}
use Rattle.sgb_ops.proofs.LineEvents.{lines_at, lines_below, lines_below-more}
use Rattle.sgb_taken.proofs.Taking.{taken_of_edges}

-- the edges whose smaller end is below k
abbrev edges_below : ℕ → List Event → List Event
edges_below k events = filter (λ e. nat_lt (min e.from e.to) k) events

-- those with the smaller end k and those below it are those below k + 1
edges_more : (k i : ℕ) (events : List Event)
    → length (filter (λ p. min p.1.from p.1.to == k) (enumerate_from i events)) + length (edges_below k events) ≡ length (edges_below (k + 1) events)
edges_more k i [] = refl
edges_more k i (e ∷ events) = grind (arith, nat_tests, edges_more k (i + 1) events)

-- no edge has a smaller end below 0
edges_below_none : (events : List Event) → length (edges_below 0 events) ≡ 0
edges_below_none events = ap length (filter-none (λ (e : Event). nat_lt (min e.from e.to) 0) events (λ k d h. le-ltb _ 0 (omega arith)))

-- all edges have a smaller end that is a vertex
edges_below_all : (n : ℕ) (events : List Event) → All (HasEndsBelow n) events → length (edges_below n events) ≡ length events
edges_below_all n events within = ap length (filter-all (λ (e : Event). nat_lt (min e.from e.to) n) events (λ k d h. lt-ltb _ n (omega (arith, (within k d h).0))))

-- each edge has two records
two_each : (events : List Event) → length (all_records false events) ≡ 2 * length events
two_each [] = refl
two_each (e ∷ events) = omega (arith, two_each events)

-- as many lines begin at a vertex as edges have it for their smaller end
lines_at_count : (events : List Event) (g : GraphData) (v : ℕ) → HasArcsOf false events g → v < order_of g
    → length (lines_at g false v) ≡ length (edges_up_from v events)
lines_at_count events g v has below = rw (taken_of_edges events g v has below) (simp (length-map, length-reverse))

-- as many begin below k as edges have a smaller end there
lines_below_count : (events : List Event) (g : GraphData) (k : ℕ) → HasArcsOf false events g → k ≤ order_of g
    → length (lines_below g false k) ≡ length (edges_below k events)
lines_below_count events g zero has few = sym (edges_below_none events)
lines_below_count events g (suc k) has few =
    let next : suc k ≡ k + 1 = omega arith in
    let here = lines_at_count events g k has (omega (arith, few)) in
    let below = lines_below_count events g k has (omega (arith, few)) in
    let parts = ap length (ap (lines_below g false) next ∙ lines_below-more g false k) ∙ length-append (lines_at g false k) (lines_below g false k) in
    let more = edges_more k 0 events ∙ ap (λ (j : ℕ). length (edges_below j events)) (sym next) in
    parts ∙ omega (arith, here, below, more)

-- which are half of the arcs
half_of_arcs : (events : List Event) (g : GraphData) → HasArcsOf false events g → length (lines_of_graph g false) ≡ g.m / 2
half_of_arcs events g has = grind (arith, lines_below_count events g (order_of g), edges_below_all (order_of g), two_each)

-- the way back of an arc, by the tips of the records
back_by_tips : (records : List ArcRec) (v k : ℕ)
    → option_map_or (λ r. points_to r.tip v) (slice_get records k) false ≡ option_map_or (λ t. points_to t v) (slice_get (map (λ r. r.tip) records) k) false
back_by_tips records v k = search (rules, slice_get-map)

-- the lower record of an edge at this place has its way back
abbrev way_back_of : GraphData → ℕ → ℕ × Event → Bool
way_back_of g v p = has_way_back g v (lower_record p)

-- one more edge that passes, where it is wanted
one_passes : (p : ℕ × Event → Bool) (b : Bool) (x : ℕ × Event) (xs : List (ℕ × Event)) → (b ≡ true → p x ≡ true) → list_all p xs ≡ true
    → list_all p (cond b (x ∷ xs) xs) ≡ true
one_passes p b x xs here rest = grind (arith, and_from, cond_both)

-- so each edge whose smaller end is v has, where the first of these has place i
ways_back_from : (g : GraphData) (v i : ℕ) (events : List Event)
    → ((j : ℕ) → slice_get (map (λ r. r.tip) g.records) (2 * i + j) ≡ slice_get (map (λ r. At r.tip) (all_records false events)) j)
    → list_all (way_back_of g v) (filter (λ p. min p.1.from p.1.to == v) (enumerate_from i events)) ≡ true
ways_back_from g v i [] same = refl
ways_back_from g v i (e ∷ events) same =
    one_passes (way_back_of g v) (min e.from e.to == v) (i, e) (filter (λ p. min p.1.from p.1.to == v) (enumerate_from (i + 1) events)) here
    (ways_back_from g v (i + 1) events later)
  where
    here : (min e.from e.to == v) ≡ true → way_back_of g v (i, e) ≡ true
    here end = back_by_tips g.records v (2 * i + 1) ∙ (ap (λ o. option_map_or (λ t. points_to t v) o false) (same 1) ∙ end)

    later : (j : ℕ) → slice_get (map (λ r. r.tip) g.records) (2 * (i + 1) + j) ≡ slice_get (map (λ r. At r.tip) (all_records false events)) j
    later j =
        let place : 2 * (i + 1) + j ≡ 2 * i + suc (suc j) = omega arith in
        ap (slice_get (map (λ r. r.tip) g.records)) place ∙ same (suc (suc j))

-- what all elements pass, they pass in the other order
passes_reverse : {X : Type 0} (p : X → Bool) (xs : List X) → list_all p xs ≡ true → list_all p (reverse xs) ≡ true
passes_reverse p xs all = list_all-from_AllPass p (reverse xs) (All-reverse (λ x. p x ≡ true) xs (AllPass-from_list_all p xs all))

-- each arc taken of v has its way back
ways_back_at : (events : List Event) (g : GraphData) (v : ℕ) → HasArcsOf false events g → v < order_of g → list_all (has_way_back g v) (taken false g v) ≡ true
ways_back_at events g v has below =
    let back = has_way_back g v in
    let edges = edges_up_from v events in
    let same = λ (j : ℕ). let place : 2 * 0 + j ≡ j = omega arith in ap (slice_get (map (λ r. r.tip) g.records)) place ∙ ap (λ (ts : List Ref). slice_get ts j) has.tips in
    ap (list_all back) (taken_of_edges events g v has below)
    ∙ passes_reverse back (map lower_record edges) (list_all-map back lower_record edges ∙ ways_back_from g v 0 events same)

-- so has each
ways_back : (events : List Event) (g : GraphData) → HasArcsOf false events g → list_all (λ v. list_all (has_way_back g v) (taken false g v)) (places_of g) ≡ true
ways_back events g has =
    let Has = λ (v : ℕ). list_all (has_way_back g v) (taken false g v) ≡ true in
    list_all-from_AllPass (λ v. list_all (has_way_back g v) (taken false g v)) (places_of g)
    (All-weaker (λ v. (0 ≤ v) × (v < 0 + order_of g)) Has (λ v p. ways_back_at events g v has (omega (arith, p.1))) (places_of g) (range-within 0 (order_of g)))

-- a graph that is one of edges is not refused for that
not_refused : (g : GraphData) (lines : List Line) (edges : Bool) (make : List Line → Description) → edges ≡ true
    → and_then (if not edges then Err Invalid else (if nat_lt most_vertices (length lines) then Err VeryBad else Ok lines)) (λ l. Ok (make l)) ≢ Err Invalid
not_refused g lines edges make is = grind (arith, cond_both)

-- the lines of a graph of edges are those of its edges, and are not refused
pub edges_are_lines : (events : List Event) (g : GraphData) → HasArcsOf false events g
    → (is_of_edges g (lines_of_graph g false) ≡ true) × (line_graph_of g false ≢ Err Invalid)
edges_are_lines events g has = search (rules, ways_back, half_of_arcs, and_from, eq-eqb, not_refused)
