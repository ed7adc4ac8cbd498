-- Kinds of fields.
use Rattle.std.specs.Prelude.{◌≡◌, ◌≤◌, ◌+◌, ℕ, List, Bool, true, false, Some, slice_get}
use Rattle.sgb_graph.specs.Sound.{vertex_kinds}
use Rattle.sgb_graph.specs.declared.fields.Kind.{Kind}
use Rattle.sgb_graph.specs.declared.fields.Kind.TheVariants.{I}
use Rattle.sgb_arrays.specs.declared.refusals.Wrong.{Wrong}
use Rattle.sgb_arrays.specs.declared.refusals.Wrong.TheVariants as wrong

-- whether a field of this kind holds integers
abbrev pub is_int_kind : Kind → Bool
is_int_kind I = true
is_int_kind _ = false

-- of these kinds that of this field of the vertices is integers
abbrev pub HoldIntsAt : List Kind → ℕ → Type 0
HoldIntsAt kinds field = slice_get (vertex_kinds kinds) field ≡ Some I

-- why so many places are not those of a run's integers, where there are so many vertices
abbrev pub IsMisfitOfInts : (vertices : ℕ) → List Kind → (field first count places : ℕ) → Wrong → Type 0
IsMisfitOfInts vertices kinds field first count places wrong.Vertices = first + count ≤ vertices → ⊥
IsMisfitOfInts vertices kinds field first count places wrong.Field = (first + count ≤ vertices) × (HoldIntsAt kinds field → ⊥)
IsMisfitOfInts vertices kinds field first count places wrong.Length = (first + count ≤ vertices) × HoldIntsAt kinds field × (places ≡ count → ⊥)
IsMisfitOfInts vertices kinds field first count places _ = ⊥
