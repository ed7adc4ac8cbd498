-- Induced graphs: vertices dropped, kept, repeated, merged, or with a graph put in their place [GB_BASIC, induced].
use Rattle.std.specs.Prelude.{◌==◌, Bool, not, ◌||◌, List, [], ◌∷◌, ◌++◌, map, filter, flat_map, codes, nat_le, Result, Ok}
use Rattle.sgb_vec.specs.Results.{and_then}
use Rattle.sgb_vec.specs.declared.panics.Panic.{Panic}
use Rattle.sgb_graph.specs.Graphs.{GraphData}
use Rattle.sgb_graph.specs.Events.{Event}
use Rattle.sgb_graph.specs.Ids.{compound_id}
use Rattle.sgb_graph.specs.Descriptions.{Description}
use Rattle.sgb_graph.specs.Made.{plain}
use Rattle.sgb_graph.specs.Vertices.{order_of, places_of, names_of}
use Rattle.sgb_taken.specs.Taken.{taken}
use Rattle.sgb_ops.specs.Merged.{merged_unless}
use Rattle.sgb_graph.specs.IdTexts.{flag_text}
use Rattle.sgb_ops.specs.Compounds.{closing}
use Rattle.sgb_ops.specs.declared.induced_graphs.entries.Entry.{Entry}
use Rattle.sgb_ops.specs.Entries.{accepted_entries, copies_of, names_by_entries, events_within}

-- the events between copies: for each v, each copy u of v and each arc a taken of v, from u to each copy t of a's tip, with
-- the length of a; but for a loop of an undirected graph only where t is not before u
abbrev pub events_between : GraphData → List Entry → Bool → List Event
events_between g entries directed = flat_map (λ v. flat_map (λ u. flat_map (λ a.
    map (λ t. record { from = u; to = t; len = a.len })
    (filter (λ t. directed || not (a.tip == v) || nat_le u t) (copies_of entries a.tip)))
    (taken directed g v)) (copies_of entries v)) (places_of g)

-- the events inside the entries and then those between copies: loops, and parallel ones apart, only where they are wanted
abbrev pub induced_events : GraphData → List Entry → Bool → Bool → Bool → List Event
induced_events g entries self multi directed = merged_unless multi directed
    (filter (λ e. self || not (e.from == e.to)) (events_within entries directed ++ events_between g entries directed))

-- induced(g, entries, self, multi, directed): the description in the id is empty
abbrev pub induced_of : GraphData → List Entry → Bool → Bool → Bool → Result Description Panic
induced_of g entries self multi directed = and_then (accepted_entries (order_of g) entries) (λ list.
    Ok (plain directed (induced_events g list self multi directed) (names_by_entries (names_of g) list)
    (compound_id (codes "induced(") g.id (closing ([] ∷ flag_text self ∷ flag_text multi ∷ flag_text directed ∷ [])))))
