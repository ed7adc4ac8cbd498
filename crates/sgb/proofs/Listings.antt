-- Parts of a listing, one after the other.
use Rattle.std.proofs.Common.{◌≡◌, ◌+◌, ◌<◌, ◌≤◌, ℕ, min, List, [], ◌++◌, length, Some, add-one, drop-cons, ap, append_assoc, arith, codes, decimal}
use Rattle.std.specs.Fmt.{signed_decimal}
use Rattle.std.specs.List.{flat_map, slice_get, slice_index_or}
use Rattle.std.proofs.lemmas.List.{drop_all, length-map}
use Rattle.std.proofs.lemmas.Option.{get_or_from_slice_get}
use Rattle.sgb_vec.proofs.Lists.{range-first, range-none}
use Rattle.sgb_graph.specs.declared.fields.Link.{Link}
use Rattle.sgb_graph.specs.Graphs.{GraphData, chain_of}
use Rattle.sgb_graph.specs.Vertices.{names_of}
use Rattle.sgb.specs.Texts.{name_line, name_lines, arc_line, block, blocks, head_text}
use Rattle.sgb.specs.inner.Texts.{count_text, title_text}

-- a head is what stands before the number of arcs, and the rest
pub head-parts : (id : List ℕ) (n m : ℕ) → head_text id n m ≡ title_text id n ++ count_text m
unfolding head_text title_text count_text
head-parts id n m = simp append_assoc

-- the block of a vertex stands before those after it
pub blocks-first : (g : GraphData) (v : ℕ) → v < length (names_of g) → blocks g v ≡ block g v ++ blocks g (v + 1)
unfolding blocks
blocks-first g v h = grind (arith, range-first)

-- no block is left after the last vertex
pub blocks-none : (g : GraphData) (v : ℕ) → length (names_of g) ≤ v → blocks g v ≡ []
unfolding blocks
blocks-none g v h = ap (flat_map (block g)) (range-none v (length (names_of g)) h)

-- none either from a vertex that is not there on
pub blocks-min : (g : GraphData) (k : ℕ) → blocks g (min k (length (names_of g))) ≡ blocks g k
blocks-min g k = grind (arith, blocks-none)

-- a block is the line of the vertex's name and those of its arcs
pub block-parts : (g : GraphData) (v : ℕ) (links : List Link) → chain_of g v ≡ links
    → block g v ≡ name_line (slice_index_or (names_of g) v []) ++ flat_map (arc_line (names_of g)) links
unfolding block
block-parts g v links listed = ap (λ ls. name_line (slice_index_or (names_of g) v []) ++ flat_map (arc_line (names_of g)) ls) listed

-- the line of the name of a vertex that is there stands before those after it
pub name_lines-first : (names : List (List ℕ)) (v : ℕ) → v < length names → name_lines names v ≡ name_line (slice_index_or names v []) ++ name_lines names (v + 1)
unfolding name_lines
name_lines-first names v h = grind (arith, drop-cons, add-one)

-- no line is left after the last vertex
pub name_lines-none : (names : List (List ℕ)) (v : ℕ) → length names ≤ v → name_lines names v ≡ []
unfolding name_lines
name_lines-none names v h = ap (flat_map name_line) (drop_all v names h)

-- none either from a vertex that is not there on
pub name_lines-min : (names : List (List ℕ)) (k : ℕ) → name_lines names (min k (length names)) ≡ name_lines names k
name_lines-min names k = grind (arith, name_lines-none)

-- the line of an arc in parts
pub arc_line-parts : (names : List (List ℕ)) (link : Link) (name len : List ℕ) → slice_get names link.tip ≡ Some name → len ≡ signed_decimal link.len
    → arc_line names link ≡ codes "  -> " ++ (name ++ (codes ", length " ++ (len ++ codes "\n")))
unfolding arc_line
arc_line-parts names link name len named digits = grind (arith, append_assoc, get_or_from_slice_get)

-- the same of a vertex among those that there are
pub blocks-next : (g : GraphData) (v : ℕ) → v < length g.vertices → blocks g v ≡ block g v ++ blocks g (v + 1)
blocks-next g v within = blocks-first g v (omega (arith, length-map g.vertices (λ x. x.name), within))

pub name_lines-next : (g : GraphData) (v : ℕ) → v < length g.vertices → name_lines (names_of g) v ≡ name_line (slice_index_or (names_of g) v []) ++ name_lines (names_of g) (v + 1)
name_lines-next g v within = name_lines-first (names_of g) v (omega (arith, length-map g.vertices (λ x. x.name), within))
