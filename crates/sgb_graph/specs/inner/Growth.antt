-- The id of a new graph, and fields of vertices that hold integers.
use Rattle.std.specs.Prelude.{◌≡◌, ◌++◌, ◌+◌, ◌==◌, ℕ, min, List, Option, Some, codes, decimal, slice_set, if◌then◌else◌}
use Rattle.sgb_graph.specs.Growth.{first_arc}
use Rattle.sgb_graph.specs.declared.fields.Kind.{Kind}
use Rattle.sgb_graph.specs.declared.fields.Kind.TheVariants.{I}
use Rattle.sgb_graph.specs.declared.fields.Vertex.{Vertex}

-- the id of a new graph of n vertices
abbrev pub new_id : ℕ → List ℕ
new_id n = codes "gb_new_graph(" ++ decimal n ++ codes ")"

-- what follows the lower record, number k, of a new edge: where it is a loop, the higher one
abbrev pub after_lower : ℕ → List Vertex → ℕ → ℕ → Option ℕ
after_lower k vertices u v = if u == v then Some (k + 1) else first_arc vertices (min u v)

-- of vertices with these kinds the fields x, y, z hold integers
pub record HoldNumbers (kinds : List Kind) : Type 0 where
  pub x : slice_set kinds 3 I ≡ kinds
  pub y : slice_set kinds 4 I ≡ kinds
  pub z : slice_set kinds 5 I ≡ kinds
