-- The columns that keep the values of one utility field, by its kind.
use Rattle.std.specs.Prelude.{◌≡◌, ◌<◌, ℕ, suc, List, length, map, replicate, vec_capacity, vec_len}
use Rattle.sgb_graph.specs.declared.columns.Column.{Column}
use Rattle.sgb_graph.specs.declared.columns.Column.TheVariants.{Unused, Ints, Vertices, Texts, Chains}
use Rattle.sgb_graph.specs.declared.fields.Kind.{Kind}
use Rattle.sgb_graph.specs.declared.fields.Kind.TheVariants.{Z, I, V, S, A}
use Rattle.sgb_graph.specs.declared.fields.Util.{Util}
use Rattle.sgb_graph.specs.declared.fields.Util.TheVariants.{Nothing, Int, Vertex as VertexField, Str, Chain}

-- the kind of a value
abbrev pub util_kind : Util → Kind
util_kind Nothing = Z
util_kind (Int i) = I
util_kind (VertexField r) = V
util_kind (Str text) = S
util_kind (Chain first) = A

-- the kind of a column
abbrev pub column_kind : Column → Kind
column_kind Unused = Z
column_kind (Ints numbers) = I
column_kind (Vertices vertices) = V
column_kind (Texts texts) = S
column_kind (Chains chains) = A

-- the values of a column of n
abbrev pub values : ℕ → Column → List Util
values n Unused = replicate n Nothing
values n (Ints numbers) = map (λ i. Int i) numbers.items
values n (Vertices vertices) = map (λ r. VertexField r) vertices.items
values n (Texts texts) = map (λ text. Str text) texts.items
values n (Chains chains) = map (λ first. Chain first) chains.items

-- the column has n values
abbrev pub HoldsMany : ℕ → Column → Type 0
HoldsMany n column = length (values n column) ≡ n

-- the column has a value of place k, or is not used
abbrev pub HasPlace : ℕ → Column → Type 0
HasPlace k Unused = k < suc k
HasPlace k (Ints numbers) = k < length numbers.items
HasPlace k (Vertices vertices) = k < length vertices.items
HasPlace k (Texts texts) = k < length texts.items
HasPlace k (Chains chains) = k < length chains.items

-- the column has room for one value more, or is not used
abbrev pub HasRoom : Column → Type 0
HasRoom Unused = 0 < 1
HasRoom (Ints numbers) = vec_len numbers < vec_capacity numbers
HasRoom (Vertices vertices) = vec_len vertices < vec_capacity vertices
HasRoom (Texts texts) = vec_len texts < vec_capacity texts
HasRoom (Chains chains) = vec_len chains < vec_capacity chains
