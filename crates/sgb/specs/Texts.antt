-- The texts of graphs: the names of the vertices, and the listing, each vertex with its arcs.
use Rattle.std.specs.Prelude.{ℕ, ◌-◌, List, [], ◌∷◌, ◌++◌, length, drop, codes, decimal}
use Rattle.std.specs.Fmt.{signed_decimal}
use Rattle.std.specs.List.{flat_map, range_with_len, slice_index_or}
use Rattle.sgb_graph.specs.Graphs.{GraphData, chain_of}
use Rattle.sgb_graph.specs.declared.fields.Link.{Link}
use Rattle.sgb_graph.specs.Vertices.{names_of}

-- the line of a vertex: its name and a newline (10)
abbrev pub name_line : List ℕ → List ℕ
name_line name = name ++ 10 ∷ []

-- the lines of the vertices that have these names, from vertex k on
unfoldable pub name_lines : List (List ℕ) → ℕ → List ℕ
name_lines names k = flat_map name_line (drop k names)

-- the line of an arc: where it leads, and its length
unfoldable pub arc_line : List (List ℕ) → Link → List ℕ
arc_line names link = codes "  -> " ++ slice_index_or names link.tip [] ++ codes ", length " ++ signed_decimal link.len ++ codes "\n"

-- the block of vertex v: its line, and those of its arcs in the order of its list
unfoldable pub block : GraphData → ℕ → List ℕ
block g v = name_line (slice_index_or (names_of g) v []) ++ flat_map (arc_line (names_of g)) (chain_of g v)

-- what stands before the blocks: the official name, and how many vertices and arcs there are
unfoldable pub head_text : List ℕ → ℕ → ℕ → List ℕ
head_text id n m =
    codes "  The graph whose official name is\n" ++ id ++ codes "\n  has " ++ decimal n ++ codes " vertices and "
    ++ decimal m ++ codes " arcs:\n\n"

-- what stands before the blocks of a graph's listing
abbrev pub head : GraphData → List ℕ
head g = head_text g.id (length (names_of g)) g.m

-- the blocks of the vertices from vertex k on
unfoldable pub blocks : GraphData → ℕ → List ℕ
blocks g k = flat_map (block g) (range_with_len k (length (names_of g) - k))
