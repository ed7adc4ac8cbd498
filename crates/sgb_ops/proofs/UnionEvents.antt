-- The events of a union, as they are found and merged vertex by vertex.
use Rattle.sgb_vec.proofs.Common.{rules, ◌≡◌, ◌<◌, ◌≤◌, ℕ, Bool, false, List, [], ◌++◌, map, get_or, sym, append-nil, arith, All, filter, flat_map, nat_lt, cond_both, lt-ltb, le-ltb, ltb-true, ne_eqb, and_right, map-append, All-append, All-filter, All-map, All-nil, filter_passes}
use Rattle.sgb_vec.proofs.Lists.{filter-all}
use Rattle.sgb_graph.specs.Graphs.{GraphData}
use Rattle.sgb_graph.specs.Events.{Event}
use Rattle.sgb_graph.specs.declared.fields.Link.{Link}
use Rattle.sgb_ops.specs.inner.Ends.{AllWithin, event_of}
use Rattle.sgb_ops.specs.Gunion.{union_events}
use Rattle.sgb_graph.specs.Vertices.{order_of, places_of}
use Rattle.sgb_taken.specs.Taken.{taken}
use Rattle.sgb_ops.specs.Merged.{has_ends_of, merged_unless}
use Rattle.sgb_ops.specs.inner.Gunion.{union_arcs}
use Rattle.sgb_taken.proofs.TakenTips.{TipBelow}
use Rattle.sgb_ops.proofs.EventsWithin.{events_of_within, merged_unless_within}
use Rattle.sgb_ops.specs.inner.Sources.{HasTips}
use Rattle.sgb_ops.proofs.ListedEvents.{listed_tips}
use Rattle.sgb_ops.proofs.MergedParts.{AreApart, merged_parts}
use Rattle.sgb_taken.proofs.Taking.{taken_up}

-- the arcs that lead to vertices below n
abbrev pub leading_below : ℕ → List Link → List Link
leading_below n links = filter (λ l. nat_lt l.tip n) links

-- they are all where all do
all_lead_below : (n : ℕ) (links : List Link) → All (TipBelow n) links → leading_below n links ≡ links
all_lead_below n links all = filter-all (λ l. nat_lt l.tip n) links (λ k d h. lt-ltb _ n (all k d h))

lead_below : (n : ℕ) (links : List Link) → All (TipBelow n) (leading_below n links)
lead_below n links = λ k d h. ltb-true _ n (filter_passes (λ l. nat_lt l.tip n) links k d h)

-- the events of v, with parallel ones
abbrev pub events_of : GraphData → GraphData → Bool → ℕ → List Event
events_of g h directed v = map (event_of v) (union_arcs g h directed v)

module _ (g h : GraphData) (directed : Bool) (v : ℕ) (tips : HasTips g) (below : v < order_of g) where
  -- a vertex that both have
  pub of_both : (none old new : List Event) → v < order_of h → none ≡ []
      → old ≡ none ++ map (event_of v) (leading_below (order_of g) (taken directed g v))
      → new ≡ old ++ map (event_of v) (leading_below (order_of g) (taken directed h v))
      → new ≡ events_of g h directed v
  of_both none old new has empty first second = search (rules, all_lead_below, listed_tips, lt-ltb, map-append)

  -- one that the second graph has not
  pub of_first : (none new : List Event) → order_of h ≤ v → none ≡ []
      → new ≡ none ++ map (event_of v) (leading_below (order_of g) (taken directed g v))
      → new ≡ events_of g h directed v
  of_first none new past empty first = grind (arith, all_lead_below, listed_tips, le-ltb, append-nil)

  -- its arcs lead to vertices of the first graph
  arcs_lead_below : All (TipBelow (order_of g)) (union_arcs g h directed v)
  arcs_lead_below =
      All-append (TipBelow (order_of g)) (taken directed g v) _ (listed_tips directed g v tips below)
      (cond_both (nat_lt v (order_of h)) (leading_below (order_of g) (taken directed h v)) [] (All (TipBelow (order_of g))) (λ _. lead_below (order_of g) (taken directed h v)) (λ _. All-nil (TipBelow (order_of g))))

  -- so the ends of its events that are left are vertices of a graph of that size
  pub left_within : (multi : Bool) (n : ℕ) (found left : List Event) → n ≡ order_of g
      → left ≡ merged_unless multi directed found → found ≡ events_of g h directed v → AllWithin n left
  left_within multi n found left size merges all =
      let within = merged_unless_within (order_of g) multi directed (events_of g h directed v) (events_of_within (order_of g) v (union_arcs g h directed v) below arcs_lead_below) in
      rw (size, merges, all) within

-- an arc that is taken of a vertex for an undirected result leads up
abbrev LeadsUp : Bool → ℕ → Link → Type 0
LeadsUp directed v l = directed ≡ false → v ≤ l.tip

arcs_lead_up : (g h : GraphData) (directed : Bool) (v : ℕ) → All (LeadsUp directed v) (union_arcs g h directed v)
arcs_lead_up g h directed v =
    All-append (LeadsUp directed v) (taken directed g v) _ (taken_up directed g v)
    (cond_both (nat_lt v (order_of h)) (leading_below (order_of g) (taken directed h v)) [] (All (LeadsUp directed v))
    (λ _. All-filter (λ l. nat_lt l.tip (order_of g)) (LeadsUp directed v) (taken directed h v) (taken_up directed h v))
    (λ _. All-nil (LeadsUp directed v)))

-- the events of two arcs of different vertices do not have the same ends
arcs_apart : (directed : Bool) (u w : ℕ) (l k : Link) → u < w → LeadsUp directed w k → has_ends_of directed (event_of u l) (event_of w k) ≡ false
arcs_apart directed u w l k after up = grind (arith, ne_eqb, and_right)

-- nor do any two events of different vertices
vertices_apart : (g h : GraphData) (directed : Bool) (u w : ℕ) → u < w → AreApart directed (events_of g h directed u) (events_of g h directed w)
vertices_apart g h directed u w after =
    All-map (λ e. All (λ f. has_ends_of directed e f ≡ false) (events_of g h directed w)) (event_of u) (union_arcs g h directed u)
    (λ i d below. All-map (λ f. has_ends_of directed (event_of u (get_or (union_arcs g h directed u) i d)) f ≡ false) (event_of w) (union_arcs g h directed w)
    (λ j x there. arcs_apart directed u w (get_or (union_arcs g h directed u) i d) (get_or (union_arcs g h directed w) j x) after (arcs_lead_up g h directed w j x there)))

-- those of v that are left
abbrev pub left_of : GraphData → GraphData → Bool → Bool → ℕ → List Event
left_of g h multi directed v = merged_unless multi directed (events_of g h directed v)

-- of all vertices they are those of the union
pub all_left : (g h : GraphData) (multi directed : Bool) → flat_map (left_of g h multi directed) (places_of g) ≡ merged_unless multi directed (union_events g h directed)
all_left g h multi directed = sym (merged_parts multi directed (events_of g h directed) 0 (order_of g) (λ u w low after high. vertices_apart g h directed u w after))
