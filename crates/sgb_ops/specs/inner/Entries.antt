-- How many vertices entries make, their names, and the events inside one vertex of a graph that is put in [GB_BASIC, induced].
use Rattle.std.specs.Prelude.{ℕ, ◌+◌, Bool, List, map, flat_map, zip, sum_by}
use Rattle.sgb_graph.specs.Events.{Event}
use Rattle.sgb_graph.specs.Graphs.{GraphData}
use Rattle.sgb_graph.specs.declared.fields.Link.{Link}
use Rattle.sgb_ops.specs.declared.induced_graphs.entries.Entry.{Entry}
use Rattle.sgb_ops.specs.Entries.{merged_count, names_of_copies, size_of_entry}
use Rattle.sgb_taken.specs.Taken.{taken}

-- how many vertices stand in the place of one vertex alone
abbrev pub own_total : List Entry → ℕ
own_total entries = sum_by size_of_entry entries

-- how many vertices the result has in all
abbrev pub total_of : List Entry → ℕ
total_of entries = merged_count entries + own_total entries

-- the names of the vertices that are not merged
abbrev pub own_names : List (List ℕ) → List Entry → List (List ℕ)
own_names names entries = flat_map (λ p. names_of_copies p.0 p.1) (zip names entries)

-- an arc b of vertex w of a graph whose first vertex is the one given
abbrev pub inner_event : ℕ → ℕ → Link → Event
inner_event start w b = record { from = start + w; to = start + b.tip; len = b.len }

-- the events of the arcs taken of its vertex w
abbrev pub inner_events_from : Bool → ℕ → GraphData → ℕ → List Event
inner_events_from directed start inner w = map (inner_event start w) (taken directed inner w)
