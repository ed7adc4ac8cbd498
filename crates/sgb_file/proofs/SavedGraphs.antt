-- Graphs that can be saved: the fields of their records, and what is found so an element at a time.
use Rattle.sgb_vec.proofs.Common.{rules, arith, length-drop, ◌^◌, ◌≡◌, ℕ, suc, ◌+◌, ◌<◌, ◌≤◌, true, List, [], ◌∷◌, length, get_or, Some, slice_get, All, refl, and_parts, cases_lt, All-cons, All-nil, slice_get-get_or, AllPass-from_list_all}
use Rattle.std.proofs.Math.Bool.{and_assoc}
use Rattle.sgb_vec.specs.Limits.{most_vertices}
use Rattle.sgb_graph.specs.Graphs.{GraphData}
use Rattle.sgb_graph.specs.Ids.{IsId}
use Rattle.sgb_graph.specs.Sound.{IsGraph, ref_fits, chain_fits, utils_fit, graph_kinds, vertex_kinds, arc_kinds, vertex_fits, record_fits}
use Rattle.sgb_graph.specs.declared.fields.Kind.{Kind}
use Rattle.sgb_graph.specs.declared.fields.Kind.TheVariants.{I, V, S, A}
use Rattle.sgb_graph.specs.declared.fields.Util.{Util}
use Rattle.sgb_graph.specs.declared.fields.Util.TheVariants.{Int, Vertex as VertexField, Str, Chain}
use Rattle.sgb_graph.specs.declared.fields.Vertex.{Vertex}
use Rattle.sgb_graph.specs.declared.fields.ArcRec.{ArcRec}
use Rattle.sgb_file.specs.inner.Heads.{Counts, head_of}
use Rattle.sgb_file.specs.Saved.{ValueCanBeSaved, VertexCanBeSaved, ArcCanBeSaved, CanBeSaved}
use Rattle.sgb_file.proofs.NumberReading.{at_most}

-- P holds of the first n elements
abbrev pub HoldsOfFirst : {X : Type 0} → (X → Type 0) → List X → ℕ → Type 0
HoldsOfFirst {X} P xs n = (k : ℕ) (x : X) → k < n → slice_get xs k ≡ Some x → P x

-- of one more
pub more_hold : {X : Type 0} (P : X → Type 0) (xs : List X) (n : ℕ) (x : X) → HoldsOfFirst P xs n → slice_get xs n ≡ Some x → P x → HoldsOfFirst P xs (n + 1)
more_hold P xs n x before here holds k y below there = search (rules, cases_lt)

-- of all of them
pub all_hold : {X : Type 0} (P : X → Type 0) (xs : List X) (n : ℕ) → length xs ≤ n → HoldsOfFirst P xs n → All P xs
all_hold P xs n fits h = λ k d below. h k (get_or xs k d) (omega (arith, below, fits)) (slice_get-get_or xs k d below)

-- values that fit these kinds, and can be saved
pub record FieldsFit (counts : Counts) (kinds : List Kind) (us : List Util) : Type 0 where
  pub fits : utils_fit counts.vertices counts.arcs kinds us ≡ true
  pub values : All ValueCanBeSaved us

-- the fields of the record of a vertex, and of an arc's
abbrev pub fields_of_vertex : Vertex → List Util
fields_of_vertex v = Str v.name ∷ Chain v.arcs ∷ v.util

abbrev pub fields_of_arc : ArcRec → List Util
fields_of_arc r = VertexField r.tip ∷ Chain r.next ∷ Int r.len ∷ r.a ∷ r.b ∷ []

-- they fit, and can be saved
abbrev pub VertexFits : GraphData → Vertex → Type 0
VertexFits g v = FieldsFit (head_of g).counts (S ∷ A ∷ vertex_kinds g.kinds) (fields_of_vertex v)

abbrev pub ArcFits : GraphData → ArcRec → Type 0
ArcFits g r = FieldsFit (head_of g).counts (V ∷ A ∷ I ∷ arc_kinds g.kinds) (fields_of_arc r)

vertex_that_fits : (g : GraphData) (v : Vertex) → vertex_fits g v ≡ true → VertexCanBeSaved v → VertexFits g v
vertex_that_fits g v fits saved = grind (arith, All-cons)

pub vertex_saved : (g : GraphData) (v : Vertex) → VertexFits g v → VertexCanBeSaved v
vertex_saved g v h = grind (arith, h.values 0 (Str v.name), λ (k : ℕ) (d : Util). h.values (suc (suc k)) d)

-- the tests of an arc's fields are grouped in two ways
pub arc_tests : (g : GraphData) (r : ArcRec) → record_fits g r ≡ utils_fit (length g.vertices) (length g.records) (V ∷ A ∷ I ∷ arc_kinds g.kinds) (fields_of_arc r)
arc_tests g r = and_assoc (ref_fits (length g.vertices) r.tip) (chain_fits (length g.records) r.next) (utils_fit (length g.vertices) (length g.records) (arc_kinds g.kinds) (r.a ∷ r.b ∷ []))

arc_that_fits : (g : GraphData) (r : ArcRec) → record_fits g r ≡ true → ArcCanBeSaved r → ArcFits g r
arc_that_fits g r fits saved = grind (arith, All-cons, All-nil, arc_tests)

pub arc_saved : (g : GraphData) (r : ArcRec) → ArcFits g r → ArcCanBeSaved r
arc_saved g r h = grind (arith, h.values 2, h.values 3, h.values 4)

-- as many values as kinds
pub length_fits : (n m : ℕ) (kinds : List Kind) (utils : List Util) → utils_fit n m kinds utils ≡ true → length utils ≡ length kinds
length_fits n m [] [] h = refl
length_fits n m (kind ∷ kinds) (u ∷ utils) h = grind (arith, and_parts, length_fits n m kinds utils)
length_fits n m _ _ h = absurd cc

-- a graph has six fields of its own
pub six_fields : (g : GraphData) → IsGraph g → length g.kinds ≡ 14 → length g.util ≡ 6
six_fields g h kinds = grind (arith, length_fits, and_parts, length-drop)

-- counts that numbers of 18 digits reach
pub record AreSmall (counts : Counts) : Type 0 where
  pub vertices : counts.vertices ≤ 10 ^ 18
  pub arcs : counts.arcs ≤ 10 ^ 18

-- a graph that can be saved, in the parts that its text asks for
pub record IsReady (g : GraphData) : Type 0 where
  pub small : AreSmall (head_of g).counts
  pub vertices_few : length g.vertices ≤ most_vertices
  pub records_few : length g.records < 10 ^ 18
  pub arcs_few : g.m < 10 ^ 18
  pub id : IsId g.id
  pub own : FieldsFit (head_of g).counts (graph_kinds g.kinds) g.util
  pub vertices : All (VertexFits g) g.vertices
  pub records : All (ArcFits g) g.records

pub ready : (g : GraphData) → CanBeSaved g → IsReady g
ready g h = grind (arith, at_most, and_parts, vertex_that_fits, AllPass-from_list_all, arc_that_fits)
