-- What is put in the place of each vertex of a graph [GB_BASIC, induced]. All that depends on the forms that
-- an entry can have stands in this file.
use Rattle.std.specs.Prelude.{ℕ, zero, suc, ◌+◌, ◌-◌, ◌==◌, max, Bool, false, not, List, [], ◌∷◌, ◌++◌, codes, decimal, map, flat_map, zip, sum_by, length, take, slice_get, nat_lt, if◌then◌else◌, Result, Ok, Err}
use Rattle.std.specs.List.{range_with_len, list_any, enumerate_from}
use Rattle.std.specs.Option.{option_map_or}
use Rattle.sgb_vec.specs.Limits.{most_vertices}
use Rattle.sgb_vec.specs.declared.panics.Panic.{Panic}
use Rattle.sgb_vec.specs.declared.panics.Panic.TheVariants.{Bad, VeryBad}
use Rattle.sgb_graph.specs.Events.{Event}
use Rattle.sgb_ops.specs.declared.induced_graphs.entries.Entry.{Entry}
use Rattle.sgb_ops.specs.declared.induced_graphs.entries.Entry.TheVariants as entry
use Rattle.sgb_graph.specs.Vertices.{order_of, places_of, names_of}
use Rattle.sgb_taken.specs.Taken.{taken}
use Rattle.sgb_ops.specs.Compounds.{joined_name}

-- how many vertices stand in the place of a vertex with this entry alone
abbrev pub size_of_entry : Entry → ℕ
size_of_entry (entry.Copies k) = k
size_of_entry (entry.Graph inner) = order_of inner
size_of_entry (entry.Merged k) = 0

-- the number of the merged vertex that stands in the place of a vertex with this entry, or 0
abbrev pub merged_number : Entry → ℕ
merged_number (entry.Merged k) = k
merged_number _ = 0

-- how many merged vertices there are: 1 to the greatest number of all entries, also those that no entry has
abbrev pub merged_count : List Entry → ℕ
merged_count [] = 0
merged_count (e ∷ entries) = max (merged_number e) (merged_count entries)

-- the entry merges its vertex with others, but into no vertex with a number
abbrev pub is_unnumbered : Entry → Bool
is_unnumbered (entry.Merged k) = k == 0
is_unnumbered _ = false

-- the entries for a graph with n vertices, or why they are refused: not one for each vertex; then a merged vertex 0;
-- then too many vertices in all, those that are merged and those that stand for one vertex alone
abbrev pub accepted_entries : ℕ → List Entry → Result (List Entry) Panic
accepted_entries n entries = if not (length entries == n) then Err Bad
    else (if list_any is_unnumbered entries then Err Bad
    else (if nat_lt most_vertices (merged_count entries + sum_by size_of_entry entries) then Err VeryBad else Ok entries))

-- the first of the vertices in the place of vertex v alone: merged vertices come first, and then those of the vertices before v
abbrev pub first_copy : List Entry → ℕ → ℕ
first_copy entries v = merged_count entries + sum_by size_of_entry (take v entries)

-- the vertices that stand in the place of a vertex with this entry, whose own ones begin here: merged vertex k is vertex k - 1
abbrev pub copies_by : ℕ → Entry → List ℕ
copies_by start (entry.Copies k) = range_with_len start k
copies_by start (entry.Graph inner) = range_with_len start (order_of inner)
copies_by start (entry.Merged k) = (k - 1) ∷ []

-- the vertices that stand in the place of vertex v
abbrev pub copies_of : List Entry → ℕ → List ℕ
copies_of entries v = option_map_or (copies_by (first_copy entries v)) (slice_get entries v) []

-- the names of the vertices that stand in the place of the vertex of this name alone: none; the name; the name and the name
-- with `'`; the name with `:0` to `:k-1`; the name with `:` and each name of the graph. The name is cut where it would not fit
abbrev pub names_of_copies : List ℕ → Entry → List (List ℕ)
names_of_copies text (entry.Copies (suc zero)) = text ∷ []
names_of_copies text (entry.Copies (suc (suc zero))) = text ∷ (take 4_094 text ++ codes "'") ∷ []
names_of_copies text (entry.Copies (suc (suc (suc k)))) =
    map (λ i. take 4_084 text ++ codes ":" ++ decimal i) (range_with_len 0 (suc (suc (suc k))))
names_of_copies text (entry.Graph inner) = map (λ b. joined_name text (codes ":") b) (names_of inner)
names_of_copies text _ = []

-- the names of all vertices of the result: first those of the merged ones, -1, -2 and so on; then those of the others
abbrev pub names_by_entries : List (List ℕ) → List Entry → List (List ℕ)
names_by_entries names entries = map (λ k. codes "-" ++ decimal k) (range_with_len 1 (merged_count entries))
    ++ flat_map (λ p. names_of_copies p.0 p.1) (zip names entries)

-- the events inside an entry whose first vertex is the one given: of a graph, for each vertex w each arc b taken of w
abbrev pub inner_events : Bool → ℕ → Entry → List Event
inner_events directed start (entry.Graph inner) =
    flat_map (λ w. map (λ b. record { from = start + w; to = start + b.tip; len = b.len }) (taken directed inner w)) (places_of inner)
inner_events directed start _ = []

-- the events inside the graphs that stand in the places of vertices
abbrev pub events_within : List Entry → Bool → List Event
events_within entries directed = flat_map (λ p. inner_events directed (first_copy entries p.0) p.1) (enumerate_from 0 entries)
