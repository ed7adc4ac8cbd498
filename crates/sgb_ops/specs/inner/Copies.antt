-- Where the copies of each vertex begin and end, as they are looked up.
use Rattle.std.specs.Prelude.{ℕ, zero, suc, ◌+◌, ◌-◌, Bool, List, Option, Some, None, length, map, nat_lt, slice_get}
use Rattle.std.specs.List.{range_with_len}
use Rattle.std.specs.Option.{option_map_or}
use Rattle.sgb_graph.specs.declared.fields.Link.{Link}
use Rattle.sgb_ops.specs.declared.induced_graphs.entries.Entry.{Entry}
use Rattle.sgb_ops.specs.declared.induced_graphs.entries.Entry.TheVariants as entry
use Rattle.sgb_ops.specs.Entries.{first_copy}
use Rattle.sgb_graph.specs.Vertices.{order_of}
use Rattle.sgb_ops.specs.inner.Sources.{HasTips}

-- the first copy of each vertex, and after them how many there are in all
abbrev pub first_copies : List Entry → List ℕ
first_copies entries = map (first_copy entries) (range_with_len 0 (length entries + 1))

-- where the copies of vertex v begin, and where they end: own ones one after another, or the merged one
abbrev pub start_by : ℕ → Entry → ℕ
start_by start (entry.Copies k) = start
start_by start (entry.Graph inner) = start
start_by start (entry.Merged k) = k - 1

abbrev pub count_by : Entry → ℕ
count_by (entry.Copies k) = k
count_by (entry.Graph inner) = order_of inner
count_by (entry.Merged k) = 1

abbrev pub copies_start : List Entry → ℕ → ℕ
copies_start entries v = option_map_or (start_by (first_copy entries v)) (slice_get entries v) 0

abbrev pub copies_end : List Entry → ℕ → ℕ
copies_end entries v = copies_start entries v + option_map_or count_by (slice_get entries v) 0

-- the arc leads to a vertex that has copies
abbrev pub leads_to_copies : List Entry → Link → Bool
leads_to_copies entries l = nat_lt (copies_start entries l.tip) (copies_end entries l.tip)

-- the arcs of a graph that is an entry lead to its vertices
abbrev pub IsKeptEntry : Entry → Type 0
IsKeptEntry (entry.Copies k) = Unit {0}
IsKeptEntry (entry.Graph inner) = HasTips inner
IsKeptEntry (entry.Merged k) = Unit {0}

-- an entry by its number of copies, or by the number of its merged vertex, and without the graph that is put in
abbrev pub sized : Entry → Entry
sized (entry.Copies k) = entry.Copies k
sized (entry.Graph inner) = entry.Copies (order_of inner)
sized (entry.Merged k) = entry.Merged k

-- the entry of so many copies, or of a merged vertex where that has a number
abbrev pub entry_of_place : ℕ → ℕ → Entry
entry_of_place k zero = entry.Copies k
entry_of_place k (suc n) = entry.Merged (suc n)

-- the number of the merged vertex, if the entry is one
abbrev pub merged_of : Entry → Option ℕ
merged_of (entry.Copies k) = None
merged_of (entry.Graph inner) = None
merged_of (entry.Merged k) = Some k
