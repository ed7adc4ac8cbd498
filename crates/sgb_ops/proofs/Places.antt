-- What is done place by place, or arc by arc, as events that are added one after another.
use Rattle.sgb_vec.proofs.Common.{rules, ◌≡◌, ℕ, ℤ, ◌+◌, ◌<◌, ◌≤◌, Bool, List, [], ◌∷◌, ◌++◌, length, drop, get_or, ap, ◌∙◌, arith, range_with_len, drop_more}
use Rattle.sgb_graph.specs.Graphs.{GraphData}
use Rattle.sgb_graph.specs.Events.{Event}
use Rattle.sgb_graph.specs.Growth.{AddsEvents}
use Rattle.sgb_graph.specs.declared.fields.Link.{Link}
use Rattle.sgb_graph.proofs.AddedEvents.{AddsUpTo, up_to-more, up_to-all}
use Rattle.sgb_ops.proofs.TallyLemmas.{no_arc}
use Rattle.sgb_ops.proofs.PlainLists.{places_from, places-all, places-next, places-none}

-- the same event, told in other words
pub same_event : (directed : Bool) (old new : GraphData) (u v x y : ℕ) (far len : ℤ) → u ≡ x → v ≡ y → far ≡ len → AddsEvents directed old new (record { from = u; to = v; len = far } ∷ []) → AddsEvents directed old new (record { from = x; to = y; len = len } ∷ [])
same_event directed old new u v x y far len a b c h = rw (← a, ← b, ← c) h

-- a graph that has the events of the places before i; those of the places from i on are still to come
abbrev pub PlacesLeft : Bool → GraphData → GraphData → (List ℕ → List Event) → ℕ → ℕ → Type 0
PlacesLeft directed old now events n i = AddsUpTo directed old now (events (places_from n i)) (events (places_from n 0))

module _ (directed : Bool) (old now : GraphData) (events : List ℕ → List Event) (n i : ℕ) where
  -- those of place i are added
  pub place_added : (new : GraphData) (es : List Event) → i < n → PlacesLeft directed old now events n i → AddsEvents directed now new es
      → events (i ∷ places_from n (i + 1)) ≡ es ++ events (places_from n (i + 1)) → PlacesLeft directed old new events n (i + 1)
  place_added new es below left added is = grind (arith, up_to-more, places_from, places-next)

  -- those of all places are added
  pub places_added : n ≤ i → PlacesLeft directed old now events n i → events [] ≡ [] → AddsEvents directed old now (events (range_with_len 0 n))
  places_added past left none = search (rules, places-all, up_to-all, places_from, places-none)

-- arcs of a list have their events added one after another; those from place i on are still to come
abbrev pub ListLeft : Bool → GraphData → GraphData → (List Link → List Event) → List Link → ℕ → Type 0
ListLeft directed old now events arcs i = AddsUpTo directed old now (events (drop i arcs)) (events arcs)

-- those of the arc at place i are added
pub arc_added : (directed : Bool) (old now new : GraphData) (events : List Link → List Event) (arcs : List Link) (i : ℕ) (es : List Event)
    → i < length arcs → ListLeft directed old now events arcs i → AddsEvents directed now new es
    → events (get_or arcs i no_arc ∷ drop (i + 1) arcs) ≡ es ++ events (drop (i + 1) arcs) → ListLeft directed old new events arcs (i + 1)
arc_added directed old now new events arcs i es below left added same =
    up_to-more directed old now new es (events (drop (i + 1) arcs)) (events arcs) (events (drop i arcs)) left (ap events (drop_more arcs i no_arc below) ∙ same) added
