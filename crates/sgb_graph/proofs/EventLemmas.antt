-- The lists of events, as events come one by one.
use Rattle.sgb_vec.proofs.Common.{◌≡◌, ◌≢◌, ◌+◌, ◌⊎◌, ℕ, ℤ, min, max, Bool, true, false, List, [], ◌∷◌, ◌++◌, length, map, Option, refl, ap, sym, subst, ◌∙◌, arith, slice_get, All, option_map, option_map_or, eq-eqb, ne_eqb, cases_eq, append-nil, append_assoc, map-append, length-append, length-map, All-nil, All-cons, All-append, All-map, All-tail, flat_map-append, slice_get-map}
use Rattle.sgb_graph.specs.Graphs.{GraphData, ListsEnd, chain_of, ends_of}
use Rattle.sgb_graph.specs.inner.Chains.{links_of}
use Rattle.sgb_graph.specs.Events.{Event, Record, HasArcsOf, HasEndsBelow, all_records, links_at, list_from, records_of}
use Rattle.sgb_graph.specs.Growth.{KeepsAllButArcs, link, new_graph, new_vertex, with_event, with_events}
use Rattle.sgb_graph.specs.declared.fields.Ref.TheVariants.{At}
use Rattle.sgb_graph.specs.declared.fields.Vertex.{Vertex}
use Rattle.sgb_graph.proofs.Chains.{ends_none, links_of_none}
use Rattle.sgb_graph.proofs.AddingArcs.{arc_keeps, arc_put}
use Rattle.sgb_graph.proofs.AddingEdges.{HasEdgePut, edge_keeps, edge_put}

-- the list of no event, and of one more in front
pub list_none : (directed : Bool) (k v : ℕ) → list_from directed k [] v ≡ []
unfolding list_from
list_none directed k v = refl

-- the list with an event in front
pub list_first : (directed : Bool) (k : ℕ) (e : Event) (events : List Event) (v : ℕ) → list_from directed k (e ∷ events) v ≡ list_from directed (k + length (records_of directed e)) events v ++ links_at v k (records_of directed e)
unfolding list_from
list_first directed k e events v = refl

-- the records of one more event
records_push : (directed : Bool) (events : List Event) (e : Event) → all_records directed (events ++ e ∷ []) ≡ all_records directed events ++ records_of directed e
records_push directed events e =
    flat_map-append (records_of directed) events (e ∷ []) ∙ ap (λ records. all_records directed events ++ records) (append-nil (records_of directed e))

-- the list with one more event at the end: its records come first
list_push : (directed : Bool) (k : ℕ) (events : List Event) (e : Event) (v : ℕ) → list_from directed k (events ++ e ∷ []) v ≡ links_at v (k + length (all_records directed events)) (records_of directed e) ++ list_from directed k events v
list_push directed k [] e v = grind (arith, list_first, list_none, append-nil)
list_push directed k (x ∷ events) e v = grind (arith, length-append, list_first, append_assoc, list_push directed (k + length (records_of directed x)) events e v)

-- the records of an event come after those of the graph, and in front of the lists
record AddsRecords (directed : Bool) (old new : GraphData) (e : Event) : Type 0 where
  count : new.m ≡ old.m + length (records_of directed e)
  tips : map (λ r. r.tip) new.records ≡ map (λ r. r.tip) old.records ++ map (λ r. At r.tip) (records_of directed e)
  lengths : map (λ r. r.len) new.records ≡ map (λ r. r.len) old.records ++ map (λ r. r.len) (records_of directed e)
  lists : (w : ℕ) → chain_of new w ≡ links_at w (length old.records) (records_of directed e) ++ chain_of old w
  within : HasEndsBelow (length old.vertices) e
  ends : ListsEnd new
  size : length new.vertices ≡ length old.vertices

-- then the graph has the arcs of that event too
records_added : (directed : Bool) (events : List Event) (e : Event) (old new : GraphData) → HasArcsOf directed events old → AddsRecords directed old new e → HasArcsOf directed (events ++ e ∷ []) new
records_added directed events e old new has adds =
    let more = records_push directed events e in
    let place : length old.records ≡ 0 + length (all_records directed events) = omega (arith, ap length has.tips, length-map old.records (λ r. r.tip), length-map (all_records directed events) (λ r. At r.tip)) in
    record {
      count = grind (arith, length-append, more);
      tips = grind (arith, map-append, more);
      lengths = grind (arith, map-append, more);
      lists = λ v below. grind (arith, list_push, place);
      within = rw adds.size (All-append (HasEndsBelow (length old.vertices)) events (e ∷ []) has.within (All-cons (HasEndsBelow (length old.vertices)) e [] adds.within (All-nil (HasEndsBelow (length old.vertices)))));
      ends = adds.ends;
    }

-- a new graph has no arcs
pub new_has_none : (directed : Bool) (names : List (List ℕ)) → HasArcsOf directed [] (new_graph names)
unfolding list_from
new_has_none directed names = record {
  count = refl;
  tips = refl;
  lengths = refl;
  lists = λ v below. rw (slice_get-map new_vertex names v) (none_at (slice_get names v));
  within = All-nil (HasEndsBelow (length (map new_vertex names)));
  ends = All-map (λ (x : Vertex). ends_of [] x.arcs ≡ true) new_vertex names (λ k d h. ends_none 0 []);
}
  where
    none_at : (o : Option (List ℕ)) → option_map_or (λ (x : Vertex). links_of [] x.arcs) (option_map new_vertex o) [] ≡ []
    none_at o = grind (arith, links_of_none)

-- what the record of an arc from u to v says
abbrev pub record_from : ℕ → ℕ → ℤ → Record
record_from u v far = record { start = u; tip = v; len = far }

-- the link of a record where it starts at this vertex, and none where it does not
pub link_here : (w k : ℕ) (r : Record) (records : List Record) → w ≡ r.start → links_at w k (r ∷ records) ≡ link k r.tip r.len ∷ links_at w (k + 1) records
link_here w k r records same = rw (eq-eqb r.start w (sym same)) refl

-- none where it starts elsewhere
pub no_link_here : (w k : ℕ) (r : Record) (records : List Record) → w ≢ r.start → links_at w k (r ∷ records) ≡ links_at w (k + 1) records
no_link_here w k r records other = rw (ne_eqb r.start w (λ e. other (sym e))) refl

-- a new arc adds the record of its event
arc_adds : (g : GraphData) (e : Event) → ListsEnd g → HasEndsBelow (length g.vertices) e → AddsRecords true g (with_event true g e) e
arc_adds g e all below =
    let has = arc_put g e.from e.to e.len all below.0 in
    record {
      count = refl;
      tips = map-append (λ r. r.tip) g.records _;
      lengths = map-append (λ r. r.len) g.records _;
      lists = λ w. grind (arith, cases_eq, has, link_here, no_link_here);
      within = below;
      ends = has.ends;
      size = (arc_keeps g e.from e.to e.len).size;
    }

-- a new edge adds the two records of its event
edge_adds : (g : GraphData) (e : Event) → ListsEnd g → HasEndsBelow (length g.vertices) e → AddsRecords false g (with_event false g e) e
edge_adds g e all below = record {
  count = refl;
  tips = map-append (λ r. r.tip) g.records _;
  lengths = map-append (λ r. r.len) g.records _;
  lists = λ w. at_vertex w (cases_eq w (min e.from e.to)) (cases_eq w (max e.from e.to));
  within = below;
  ends = has.ends;
  size = (edge_keeps g e.from e.to e.len).size;
}
  where
    has : HasEdgePut g e.from e.to e.len
    has = edge_put g e.from e.to e.len all below.0 below.1

    at_vertex : (w : ℕ) → (w ≡ min e.from e.to) ⊎ (w ≡ min e.from e.to → ⊥) → (w ≡ max e.from e.to) ⊎ (w ≡ max e.from e.to → ⊥) → chain_of (with_event false g e) w ≡ links_at w (length g.records) (records_of false e) ++ chain_of g w
    at_vertex w h k = grind (arith, min, max, has, link_here, no_link_here)

-- so does one event more
event_adds : (directed : Bool) (g : GraphData) (e : Event) → ListsEnd g → HasEndsBelow (length g.vertices) e → AddsRecords directed g (with_event directed g e) e
event_adds true g e all below = arc_adds g e all below
event_adds false g e all below = edge_adds g e all below

-- the graph with it has the events that it had, and that one
pub event_more : (directed : Bool) (events : List Event) (e : Event) (g : GraphData) → HasArcsOf directed events g → HasEndsBelow (length g.vertices) e → HasArcsOf directed (events ++ e ∷ []) (with_event directed g e)
event_more directed events e g has below = records_added directed events e g (with_event directed g e) has (event_adds directed g e has.ends below)

-- all but the arcs stays
pub event_keeps : (directed : Bool) (g : GraphData) (e : Event) → KeepsAllButArcs g (with_event directed g e)
event_keeps true g e = arc_keeps g e.from e.to e.len
event_keeps false g e = edge_keeps g e.from e.to e.len

-- all events, one by one
events_more : (directed : Bool) (done events : List Event) (g : GraphData) → HasArcsOf directed done g → All (HasEndsBelow (length g.vertices)) events → HasArcsOf directed (done ++ events) (with_events directed g events)
events_more directed done [] g has below = rw (append-nil done) has
events_more directed done (e ∷ events) g has below = grind (arith, append_assoc, event_more, event_keeps, All-tail, events_more directed (done ++ e ∷ []) events (with_event directed g e) (event_more directed done e g has (below 0 e (omega arith))) (subst (λ n. All (HasEndsBelow n) events) (sym (event_keeps directed g e).size) (All-tail (HasEndsBelow (length g.vertices)) e events below)))

-- from a new graph on
pub events_made : (directed : Bool) (names : List (List ℕ)) (events : List Event) → All (HasEndsBelow (length names)) events → HasArcsOf directed events (with_events directed (new_graph names) events)
events_made directed names events below =
    events_more directed [] events (new_graph names) (new_has_none directed names) (subst (λ n. All (HasEndsBelow n) events) (sym (length-map names new_vertex)) below)
