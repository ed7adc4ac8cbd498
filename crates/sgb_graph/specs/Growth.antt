-- How a graph is made and grows, step by step [GB_GRAPH, gb_new_graph, gb_new_arc and gb_new_edge].
use Rattle.std.specs.Prelude.{◌≡◌, ◌≤◌, ◌+◌, ◌++◌, ◌^◌, ◌==◌, ℕ, zero, suc, ℤ, pos, min, max, List, [], ◌∷◌, length, map, fold, All, codes, decimal, Option, Some, None, slice_get, slice_set, Bool, true, false, if◌then◌else◌}
use Rattle.std.specs.Option.{option_and_then}
use Rattle.sgb_graph.specs.Graphs.{GraphData, HasNoFields, arc_record}
use Rattle.sgb_graph.specs.Events.{Event, HasArcsOf}
use Rattle.sgb_graph.specs.Made.{no_kinds, no_fields}
use Rattle.sgb_graph.specs.Sound.{IsGraph, arc_kinds}
use Rattle.sgb_graph.specs.declared.fields.Kind.{Kind}
use Rattle.sgb_graph.specs.declared.fields.Kind.TheVariants.{Z, I}
use Rattle.sgb_graph.specs.declared.fields.Util.{Util}
use Rattle.sgb_graph.specs.declared.fields.Util.TheVariants.{Int}
use Rattle.sgb_graph.specs.declared.fields.Vertex.{Vertex}
use Rattle.sgb_graph.specs.declared.fields.ArcRec.{ArcRec}
use Rattle.sgb_graph.specs.declared.fields.Link.{Link}

-- the graph of these parts
abbrev pub graph_data : List ℕ → ℕ → List Kind → List Util → List Vertex → List ArcRec → GraphData
graph_data id m kinds util vertices records =
    record { id = id; m = m; kinds = kinds; util = util; vertices = vertices; records = records }

-- parts that a graph keeps: they make up a graph, whose number of arcs leaves room for more
pub record IsKept (g : GraphData) : Type 0 where
  pub graph : IsGraph g
  pub count : g.m ≤ 10 ^ 18 + length g.records

-- a vertex with this name, no arcs and no utility field
abbrev pub new_vertex : List ℕ → Vertex
new_vertex text = record { name = text; arcs = None; util = no_fields }

-- the graph of these names, with no arcs and no utility fields
abbrev pub new_graph : List (List ℕ) → GraphData
new_graph names =
    graph_data (codes "gb_new_graph(" ++ decimal (length names) ++ codes ")") 0 no_kinds no_fields (map new_vertex names) []

-- the list with the element at this place changed
abbrev pub at_place : {X : Type 0} → (X → X) → ℕ → List X → List X
at_place f k [] = []
at_place f zero (x ∷ xs) = f x ∷ xs
at_place f (suc k) (x ∷ xs) = x ∷ at_place f k xs

-- the first record of the list of vertex v
abbrev pub first_arc : List Vertex → ℕ → Option ℕ
first_arc vertices v = option_and_then (λ x. x.arcs) (slice_get vertices v)

-- the arc of record number k to v
abbrev pub link : ℕ → ℕ → ℤ → Link
link k v far = record { number = k; tip = v; len = far }

-- the utility fields of arcs hold nothing
abbrev pub HasPlainArcs : GraphData → Type 0
HasPlainArcs g = arc_kinds g.kinds ≡ Z ∷ Z ∷ []

-- the new graph is the old one but for its arcs
pub record KeepsAllButArcs (old new : GraphData) : Type 0 where
  pub id : new.id ≡ old.id
  pub kinds : new.kinds ≡ old.kinds
  pub util : new.util ≡ old.util
  pub size : length new.vertices ≡ length old.vertices
  pub names : map (λ x. x.name) new.vertices ≡ map (λ x. x.name) old.vertices
  pub fields : map (λ x. x.util) new.vertices ≡ map (λ x. x.util) old.vertices

-- the vertices with record k as the first on the list of vertex u
abbrev pub with_first : ℕ → ℕ → List Vertex → List Vertex
with_first k u vertices = at_place (λ x. record x { arcs = Some k }) u vertices

-- the graph with one arc more, from u to v: it is the last record and the first on the list of u, before what was the first
abbrev pub with_arc : GraphData → ℕ → ℕ → ℤ → GraphData
with_arc g u v len =
    record g { m = g.m + 1; vertices = with_first (length g.records) u g.vertices; records = g.records ++ arc_record v (first_arc g.vertices u) len ∷ [] }

-- the graph with one edge more, between u and v: it is the last two records. The lower one is the first on the
-- list of the smaller end, the higher one on that of the other; on the list of a loop it follows the lower
abbrev pub with_edge : GraphData → ℕ → ℕ → ℤ → GraphData
with_edge g u v len = let k = length g.records in record g {
  m = g.m + 2;
  vertices = with_first k (min u v) (with_first (k + 1) (max u v) g.vertices);
  records = g.records
      ++ arc_record (max u v) (if u == v then Some (k + 1) else first_arc g.vertices (min u v)) len
      ∷ arc_record (min u v) (first_arc g.vertices (max u v)) len ∷ [];
}

-- the graph with one event more: an arc where directed, else an edge
abbrev pub with_event : Bool → GraphData → Event → GraphData
with_event true g e = with_arc g e.from e.to e.len
with_event false g e = with_edge g e.from e.to e.len

-- the graph with these events more, one after another
abbrev pub with_events : Bool → GraphData → List Event → GraphData
with_events directed g events = fold (with_event directed) g events

-- the new graph is the old one with the arcs of these events after those that it had
pub record AddsEvents (directed : Bool) (old new : GraphData) (events : List Event) : Type 0 where
  pub arcs : (before : List Event) → HasArcsOf directed before old → HasArcsOf directed (before ++ events) new
  pub arc_fields : All HasNoFields old.records → All HasNoFields new.records
  pub rest : KeepsAllButArcs old new

-- an integer stays, anything else becomes 0
abbrev pub number_or_zero : Util → Util
number_or_zero (Int i) = Int i
number_or_zero _ = Int (pos 0)

-- the utility fields of a vertex with a number in each of x, y, z (places 3, 4, 5): 0 where there was none
abbrev pub some_numbers : List Util → List Util
some_numbers fields = at_place number_or_zero 5 (at_place number_or_zero 4 (at_place number_or_zero 3 fields))

-- the utility fields of a vertex with these numbers in x, y, z
abbrev pub put_numbers : ℤ → ℤ → ℤ → List Util → List Util
put_numbers x y z fields = slice_set (slice_set (slice_set fields 3 (Int x)) 4 (Int y)) 5 (Int z)

-- the vertex with a number in each of its fields x, y, z
abbrev pub with_some_numbers : Vertex → Vertex
with_some_numbers v = record v { util = some_numbers v.util }

-- the vertex with these numbers in its fields x, y, z
abbrev pub with_numbers : ℤ → ℤ → ℤ → Vertex → Vertex
with_numbers x y z v = record v { util = put_numbers x y z v.util }

-- the kinds with the fields x, y, z of vertices holding integers
abbrev pub with_number_kinds : List Kind → List Kind
with_number_kinds kinds = slice_set (slice_set (slice_set kinds 3 I) 4 I) 5 I

-- the graph with these numbers in the fields x, y, z of vertex v, and 0 in those of other vertices that have no number there
abbrev pub with_ints : GraphData → ℕ → ℤ → ℤ → ℤ → GraphData
with_ints g v x y z =
    record g { kinds = with_number_kinds g.kinds; vertices = at_place (with_numbers x y z) v (map with_some_numbers g.vertices) }

-- the graph with this number in its own field uu (of its kinds the one at place 8)
abbrev pub with_uu : ℤ → GraphData → GraphData
with_uu value g = record g { kinds = slice_set g.kinds 8 I; util = slice_set g.util 0 (Int value) }

-- the graph with another id
abbrev pub with_id : List ℕ → GraphData → GraphData
with_id text g = record g { id = text }
