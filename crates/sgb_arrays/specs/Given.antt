-- The graph that arrays tell: names, and arcs or edges in an order.
use Rattle.std.specs.Prelude.{◌≡◌, ◌-◌, ◌==◌, ◌&&◌, ℕ, ℤ, pos, Bool, false, not, nat_lt, nat_le, List, [], ◌∷◌, length, map, Option, Some, None, unwrap_or, get_or, slice_index, if◌then◌else◌}
use Rattle.std.specs.List.{list_all, range_with_len}
use Rattle.sgb_vec.specs.Limits.{most_bytes, most_vertices}
use Rattle.sgb_vec.specs.Names.{is_text_byte}
use Rattle.sgb_graph.specs.Graphs.{GraphData}
use Rattle.sgb_graph.specs.Growth.{new_graph, with_events, with_id}
use Rattle.sgb_graph.specs.Events.{Event}
use Rattle.sgb_graph.specs.Ids.{most_id_bytes}
use Rattle.sgb_arrays.specs.Lists.{part_by_starts}
use Rattle.sgb_arrays.specs.declared.given.Unmade.{Unmade}
use Rattle.sgb_arrays.specs.declared.given.Unmade.TheVariants as unmade

-- the names among these bytes: each is what stands from its start up to the next one
abbrev pub names_given : List ℕ → List ℕ → List (List ℕ)
names_given starts bytes = map (part_by_starts bytes starts) (range_with_len 0 (length starts - 1))

-- arc or edge number k: it leads from one end to the other, and has its length
abbrev pub event_given : List ℕ → List ℕ → List ℤ → ℕ → Event
event_given from to lengths k = record { from = slice_index from k; to = slice_index to k; len = get_or lengths k (pos 0) }

-- the graph of these names and of these arcs where directed, else edges, each put in order, with this id
abbrev pub graph_given : (starts bytes from to : List ℕ) (lengths : List ℤ) → Bool → (id : List ℕ) → GraphData
graph_given starts bytes from to lengths directed id =
    let events = map (event_given from to lengths) (range_with_len 0 (length from)) in
    with_id id (with_events directed (new_graph (names_given starts bytes)) events)

-- from this place on the others never fall, and the last is the end
abbrev pub climbs_to : (end first : ℕ) → List ℕ → Bool
climbs_to end first [] = first == end
climbs_to end first (place ∷ others) = nat_le first place && climbs_to end place others

-- where parts of a list of this length start, which are all of it: the first at 0, and where the last one ends
abbrev pub is_table : (end : ℕ) → List ℕ → Bool
is_table end [] = false
is_table end (first ∷ others) = (first == 0) && climbs_to end first others

-- at most so many bytes, each of which may stand in a string
abbrev pub is_text_of : ℕ → List ℕ → Bool
is_text_of most bytes = nat_le (length bytes) most && list_all is_text_byte bytes

-- what is wrong first with arrays of which a graph is to be made, if anything is: the names have no table, or there are not as
-- many ends, at each side, as lengths; then there are too many names; then an end is no vertex; then a text is none
abbrev pub fault_of : (starts bytes from to : List ℕ) (lengths : List ℤ) (id : List ℕ) → Option Unmade
fault_of starts bytes from to lengths id = let n = length starts - 1 in
    if not (is_table (length bytes) starts && (length from == length lengths) && (length to == length lengths)) then Some unmade.Length
    else (if nat_lt most_vertices n then Some unmade.TooMany
    else (if not (list_all (λ u. nat_lt u n) from && list_all (λ u. nat_lt u n) to) then Some unmade.Vertices
    else (if not (list_all (is_text_of most_bytes) (names_given starts bytes) && is_text_of most_id_bytes id) then Some unmade.Text
    else None)))

-- why no graph is made: what is wrong; or, where nothing is, out of memory
abbrev pub IsUnmade : Option Unmade → Unmade → Type 0
IsUnmade fault why = why ≡ unwrap_or fault unmade.NoRoom
