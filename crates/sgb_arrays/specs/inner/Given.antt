-- Arrays that tell a graph, part by part.
use Rattle.std.specs.Prelude.{◌==◌, ◌&&◌, ℕ, ℤ, Bool, nat_lt, List, length, map}
use Rattle.std.specs.List.{list_all, range_with_len}
use Rattle.sgb_graph.specs.Events.{Event}
use Rattle.sgb_arrays.specs.Given.{event_given, is_table}

-- all arcs or edges in order
abbrev pub events_given : List ℕ → List ℕ → List ℤ → List Event
events_given from to lengths = map (event_given from to lengths) (range_with_len 0 (length from))

-- the names have a table, and there are as many ends, at each side, as lengths
abbrev pub are_tables : (starts bytes from to : List ℕ) (lengths : List ℤ) → Bool
are_tables starts bytes from to lengths =
    is_table (length bytes) starts && (length from == length lengths) && (length to == length lengths)

-- these are vertices of a graph that has so many
abbrev pub are_below : ℕ → List ℕ → Bool
are_below n ends = list_all (λ u. nat_lt u n) ends
