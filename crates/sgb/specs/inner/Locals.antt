-- The blocks of a graph of vectors.
use Rattle.std.specs.Prelude.{ℕ, List, ◌++◌, codes}
use Rattle.std.specs.Fmt.{signed_decimal}
use Rattle.std.specs.List.{flat_map}
use Rattle.sgb_vec.specs.Names.{name_of_vector}
use Rattle.sgb_gen.specs.LocalLists.{LocalArc, list_in}
use Rattle.sgb_gen.specs.VectorGraphs.{VectorGraph}
use Rattle.sgb.specs.Texts.{name_line}

-- the line of an arc: the name of the vector where it leads, and its length
unfoldable pub local_line : LocalArc → List ℕ
local_line arc =
    codes "  -> " ++ name_of_vector arc.tip ++ codes ", length " ++ signed_decimal arc.len ++ codes "\n"

-- the block of a vector: its line, and those of its arcs in the order of its list
unfoldable pub local_block : VectorGraph → List ℕ → List ℕ
local_block g x = name_line (name_of_vector x) ++ flat_map local_line (list_in g x)
