-- How a graph keeps its vertices, column by column: names, first records, and the values of each utility field.
use Rattle.std.specs.Prelude.{◌≡◌, ◌&&◌, ℕ, ℤ, Bool, true, List, [], ◌∷◌, ◌++◌, length, map, replicate}
use Rattle.std.specs.List.{list_all}
use Rattle.sgb_graph.specs.Sound.{util_fits}
use Rattle.sgb_graph.specs.Growth.{at_place, number_or_zero}
use Rattle.sgb_graph.specs.inner.Columns.{HasPlace, HasRoom, column_kind, values}
use Rattle.sgb_graph.specs.inner.KeptRecords.{kept_number}
use Rattle.sgb_graph.specs.declared.fields.Kind.{Kind}
use Rattle.sgb_graph.specs.declared.fields.Kind.TheVariants.{Z, I}
use Rattle.sgb_graph.specs.declared.fields.Util.{Util}
use Rattle.sgb_graph.specs.declared.fields.Util.TheVariants.{Int}
use Rattle.sgb_graph.specs.declared.fields.Vertex.{Vertex}
use Rattle.sgb_graph.specs.declared.vertices.fields.Fields.{Fields}

-- the vertices of a graph, and what their utility fields u v w x y z hold
pub record KeptVertices : Type 0 where
  pub u : Kind
  pub v : Kind
  pub w : Kind
  pub x : Kind
  pub y : Kind
  pub z : Kind
  pub items : List Vertex

-- the kinds of these fields
abbrev pub kinds_of_vertices : KeptVertices → List Kind
kinds_of_vertices g = g.u ∷ g.v ∷ g.w ∷ g.x ∷ g.y ∷ g.z ∷ []

-- those of vertices that hold integers in x, y, z and nothing in u, v, w
abbrev pub ints_alone : List Kind
ints_alone = Z ∷ Z ∷ Z ∷ I ∷ I ∷ I ∷ []

-- each field has a value of place k, or is not used
pub record HaveValues (k : ℕ) (f : Fields) : Type 0 where
  pub u : HasPlace k f.u
  pub v : HasPlace k f.v
  pub w : HasPlace k f.w
  pub x : HasPlace k f.x
  pub y : HasPlace k f.y
  pub z : HasPlace k f.z

-- each field has room for one value more, or is not used
pub record HaveRoom (f : Fields) : Type 0 where
  pub u : HasRoom f.u
  pub v : HasRoom f.v
  pub w : HasRoom f.w
  pub x : HasRoom f.x
  pub y : HasRoom f.y
  pub z : HasRoom f.z

-- the kinds of the fields
abbrev pub field_kinds : Fields → List Kind
field_kinds f = column_kind f.u ∷ column_kind f.v ∷ column_kind f.w ∷ column_kind f.x ∷ column_kind f.y ∷ column_kind f.z ∷ []

-- their values of n vertices, a column for each field
abbrev pub field_columns : ℕ → Fields → List (List Util)
field_columns n f = values n f.u ∷ values n f.v ∷ values n f.w ∷ values n f.x ∷ values n f.y ∷ values n f.z ∷ []

-- a vertex but for its utility fields: its name, and the word that keeps its first record
abbrev pub bare_vertex : List ℕ → ℕ → Vertex
bare_vertex name first = record { name = name; arcs = kept_number first; util = [] }

-- two lists made one, element by element
abbrev pub combined : {X Y Z : Type 0} → (X → Y → Z) → List X → List Y → List Z
combined f (x ∷ xs) (y ∷ ys) = f x y ∷ combined f xs ys
combined f _ _ = []

-- rows with one element more in front of each
abbrev pub in_front : {X : Type 0} → List X → List (List X) → List (List X)
in_front xs rows = combined (λ x row. x ∷ row) xs rows

-- the n rows of a table of these columns
abbrev pub rows : {X : Type 0} → ℕ → List (List X) → List (List X)
rows n [] = replicate n []
rows n (column ∷ columns) = in_front column (rows n columns)

-- the vertices with these utility fields
abbrev pub with_fields : List Vertex → List (List Util) → List Vertex
with_fields xs rows = combined (λ (x : Vertex) fields. record x { util = fields }) xs rows

-- the vertices that are kept so
abbrev pub kept_items : List (List ℕ) → List ℕ → Fields → List Vertex
kept_items names firsts f = with_fields (combined bare_vertex names firsts) (rows (length names) (field_columns (length names) f))

-- with the kinds of their fields
abbrev pub kept_vertices : List (List ℕ) → List ℕ → Fields → KeptVertices
kept_vertices names firsts f = record {
  u = column_kind f.u;
  v = column_kind f.v;
  w = column_kind f.w;
  x = column_kind f.x;
  y = column_kind f.y;
  z = column_kind f.z;
  items = kept_items names firsts f;
}

-- the columns have n elements each
abbrev pub AreColumns : {X : Type 0} → ℕ → List (List X) → Type 0
AreColumns n [] = Unit {0}
AreColumns n (column ∷ columns) = (length column ≡ n) × AreColumns n columns

-- each vertex has a first record, or the word for none, and a value of each field
pub record AreKept (names : List (List ℕ)) (firsts : List ℕ) (f : Fields) : Type 0 where
  pub count : length firsts ≡ length names
  pub columns : AreColumns (length names) (field_columns (length names) f)

-- the values of each column fit n vertices and m records, by the kind of the column
abbrev pub columns_fit : ℕ → ℕ → List Kind → List (List Util) → Bool
columns_fit n m (kind ∷ kinds) (column ∷ columns) = list_all (util_fits n m kind) column && columns_fit n m kinds columns
columns_fit n m _ _ = true

-- columns with one row more
abbrev pub with_row : {X : Type 0} → List (List X) → List X → List (List X)
with_row (column ∷ columns) (x ∷ row) = (column ++ x ∷ []) ∷ with_row columns row
with_row _ _ = []

-- the fields x, y, z hold integers
pub record AreIntegers (f : Fields) : Type 0 where
  pub x : column_kind f.x ≡ I
  pub y : column_kind f.y ≡ I
  pub z : column_kind f.z ≡ I

-- columns with a number in each place of x, y, z
abbrev pub number_columns : List (List Util) → List (List Util)
number_columns columns = at_place (map number_or_zero) 5 (at_place (map number_or_zero) 4 (at_place (map number_or_zero) 3 columns))

-- and with these numbers in those of vertex v
abbrev pub put_columns : ℕ → ℤ → ℤ → ℤ → List (List Util) → List (List Util)
put_columns v x y z columns =
    at_place (at_place (λ _. Int z) v) 5 (at_place (at_place (λ _. Int y) v) 4 (at_place (at_place (λ _. Int x) v) 3 columns))

-- the fields x, y, z of n vertices made to hold integers: all else stays
pub record HoldNumbers (n : ℕ) (f g : Fields) : Type 0 where
  pub u : g.u ≡ f.u
  pub v : g.v ≡ f.v
  pub w : g.w ≡ f.w
  pub kinds : AreIntegers g
  pub columns : field_columns n g ≡ number_columns (field_columns n f)
