-- The wanted events of a list, as they are found part by part.
use Rattle.sgb_vec.proofs.Common.{rules, ◌≡◌, ◌<◌, ◌+◌, ℕ, Bool, List, [], ◌∷◌, ◌++◌, map, refl, ap, ◌∙◌, arith, filter, flat_map, enumerate_from, ltb-false, cases_Bool, filter-append}
use Rattle.sgb_vec.proofs.Lists.{made-append}
use Rattle.sgb_graph.specs.Events.{Event}
use Rattle.sgb_graph.specs.Graphs.{GraphData}
use Rattle.sgb_graph.specs.Growth.{AddsEvents}
use Rattle.sgb_graph.proofs.AddedEvents.{AddsUpTo, up_to-more}
use Rattle.sgb_graph.specs.declared.fields.Link.{Link}
use Rattle.sgb_ops.specs.declared.induced_graphs.entries.Entry.{Entry}
use Rattle.sgb_ops.specs.inner.Copies.{leads_to_copies}
use Rattle.sgb_ops.specs.Entries.{first_copy, inner_events}
use Rattle.sgb_ops.specs.inner.Induced.{event_between, events_of_arc, is_met, is_wanted, wanted}
use Rattle.sgb_ops.proofs.EntryTotals.{copies_between}
use Rattle.sgb_ops.proofs.PlainLists.{part_more, places_from, places-next}

-- the wanted ones of a part more
pub wanted_more : (self : Bool) (now new part rest whole all : List Event) → whole ≡ part ++ rest → now ++ wanted self whole ≡ all → new ≡ now ++ wanted self part → new ++ wanted self rest ≡ all
wanted_more self now new part rest whole all is h grown =
    part_more now new (wanted self part) (wanted self rest) (wanted self whole) all (ap (wanted self) is ∙ filter-append (is_wanted self) part rest) h grown

-- they are added to a graph
pub wanted_added : (self directed : Bool) (old now new : GraphData) (part rest whole all : List Event) → whole ≡ part ++ rest → AddsUpTo directed old now (wanted self whole) all
    → AddsEvents directed now new (wanted self part) → AddsUpTo directed old new (wanted self rest) all
wanted_added self directed old now new part rest whole all is h added =
    up_to-more directed old now new (wanted self part) (wanted self rest) all (wanted self whole) h (ap (wanted self) is ∙ filter-append (is_wanted self) part rest) added

-- the events of the places from i on, before the one where they stop
abbrev pub events_until : (ℕ → List Event) → ℕ → ℕ → List Event
events_until f stop i = flat_map f (places_from stop i)

pub until_more : (f : ℕ → List Event) (stop i : ℕ) → i < stop → events_until f stop i ≡ f i ++ events_until f stop (i + 1)
until_more f stop i below = ap (flat_map f) (places-next stop i below)

-- of the copies t to stop those that copy u of v is joined to for an arc a from v
abbrev pub events_met : Bool → ℕ → ℕ → Link → ℕ → ℕ → List Event
events_met directed v u a stop t = map (event_between u a.len) (filter (is_met directed v u a.tip) (places_from stop t))

pub met_more : (directed : Bool) (v u : ℕ) (a : Link) (stop t : ℕ) → t < stop
    → events_met directed v u a stop t ≡ map (event_between u a.len) (filter (is_met directed v u a.tip) (t ∷ [])) ++ events_met directed v u a stop (t + 1)
met_more directed v u a stop t below = search (rules, places-next, made-append, places_from)

pub arcs_to_copies : (entries : List Entry) (directed : Bool) (v u : ℕ) (arcs : List Link) → flat_map (events_of_arc entries directed v u) (filter (leads_to_copies entries) arcs) ≡ flat_map (events_of_arc entries directed v u) arcs
arcs_to_copies entries directed v u [] = refl
arcs_to_copies entries directed v u (a ∷ arcs) = grind (arith, cases_Bool, ltb-false, copies_between, arcs_to_copies entries directed v u arcs)

-- the events inside the entries that are left, the first of which stands at place v
abbrev pub events_within_from : List Entry → Bool → ℕ → List Entry → List Event
events_within_from entries directed v left = flat_map (λ p. inner_events directed (first_copy entries p.0) p.1) (enumerate_from v left)
