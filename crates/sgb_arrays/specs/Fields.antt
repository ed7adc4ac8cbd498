-- The utility fields of a graph's vertices, as arrays of numbers.
use Rattle.std.specs.Prelude.{◌≡◌, ℕ, ℤ, pos, List, drop, length, map, take, Some, slice_get}
use Rattle.std.specs.List.{slice_index_or}
use Rattle.sgb_graph.specs.Graphs.{GraphData}
use Rattle.sgb_graph.specs.Sound.{vertex_kinds}
use Rattle.sgb_graph.specs.declared.fields.Kind.TheVariants.{I}
use Rattle.sgb_graph.specs.declared.fields.Util.{Util}
use Rattle.sgb_graph.specs.declared.fields.Util.TheVariants.{Nothing, Int}
use Rattle.sgb_graph.specs.declared.fields.Vertex.{Vertex}
use Rattle.sgb_arrays.specs.Runs.{IsThere}
use Rattle.sgb_arrays.specs.declared.refusals.Wrong.{Wrong}
use Rattle.sgb_arrays.specs.declared.refusals.Wrong.TheVariants as wrong

-- this field of the vertices, of u v w x y z from 0, holds integers
abbrev pub HoldsInts : GraphData → ℕ → Type 0
HoldsInts g field = slice_get (vertex_kinds g.kinds) field ≡ Some I

-- the integer that a field holds
abbrev pub int_of : Util → ℤ
int_of (Int i) = i
int_of _ = pos 0

-- the integers in this field of the vertices of a run, in order
unfoldable pub ints_of : GraphData → ℕ → ℕ → ℕ → List ℤ
ints_of g field first count = map (λ (x : Vertex). int_of (slice_index_or x.util field Nothing)) (take count (drop first g.vertices))

-- why a field of a run is not handed over into an array of so many places
abbrev pub IsIntsRefusal : GraphData → ℕ → ℕ → ℕ → ℕ → Wrong → Type 0
IsIntsRefusal g field first count size wrong.Vertices = IsThere g first count → ⊥
IsIntsRefusal g field first count size wrong.Field = IsThere g first count × (HoldsInts g field → ⊥)
IsIntsRefusal g field first count size wrong.Length = IsThere g first count × HoldsInts g field × (size ≡ count → ⊥)
IsIntsRefusal g field first count size _ = ⊥
