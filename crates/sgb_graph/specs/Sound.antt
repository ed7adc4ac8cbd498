-- When parts make up a graph [GB_SAVE, restore_graph]: fields fit their kinds, lists end and lead to vertices.
use Rattle.std.specs.Prelude.{ℕ, Bool, true, false, ◌&&◌, List, [], ◌∷◌, length, take, drop, Option, Some, IsTrue, nat_lt, nat_le, slice_get, slice_range}
use Rattle.std.specs.List.{list_all, range_with_len}
use Rattle.std.specs.Option.{option_map_or}
use Rattle.sgb_vec.specs.Limits.{most_vertices}
use Rattle.sgb_graph.specs.Graphs.{GraphData, ends_of, numbers_of}
use Rattle.sgb_graph.specs.declared.fields.Kind.{Kind}
use Rattle.sgb_graph.specs.declared.fields.Kind.TheVariants.{Z, I, V, S, A}
use Rattle.sgb_graph.specs.declared.fields.Ref.{Ref}
use Rattle.sgb_graph.specs.declared.fields.Ref.TheVariants.{At}
use Rattle.sgb_graph.specs.declared.fields.Util.{Util}
use Rattle.sgb_graph.specs.declared.fields.Util.TheVariants.{Nothing, Int, Vertex as VertexField, Str, Chain}
use Rattle.sgb_graph.specs.declared.fields.Vertex.{Vertex}
use Rattle.sgb_graph.specs.declared.fields.ArcRec.{ArcRec}

-- of the fourteen kinds, those of a vertex's fields u v w x y z
abbrev pub vertex_kinds : List Kind → List Kind
vertex_kinds kinds = take 6 kinds

-- of the fourteen kinds, those of an arc's fields a b
abbrev pub arc_kinds : List Kind → List Kind
arc_kinds kinds = slice_range kinds 6 8

-- of the fourteen kinds, those of the graph's own fields uu vv ww xx yy zz
abbrev pub graph_kinds : List Kind → List Kind
graph_kinds kinds = drop 8 kinds

-- this leads to a vertex
abbrev pub is_vertex : Ref → Bool
is_vertex (At v) = true
is_vertex _ = false

-- the record of this number leads to a vertex
abbrev pub leads_to_vertex : List ArcRec → ℕ → Bool
leads_to_vertex records k = option_map_or (λ r. is_vertex r.tip) (slice_get records k) false

-- lists are lists: from every record, on one or not, the way by next ends; and each arc on a vertex's list leads to a vertex
abbrev pub is_sound : GraphData → Bool
is_sound g =
    list_all (λ k. ends_of g.records (Some k)) (range_with_len 0 (length g.records))
    && list_all (λ v. list_all (leads_to_vertex g.records) (numbers_of g.records v.arcs)) g.vertices

-- this leads to one of n vertices, or to none
abbrev pub ref_fits : ℕ → Ref → Bool
ref_fits n (At v) = nat_lt v n
ref_fits n _ = true

-- this is the number of one of m arc records, or none
abbrev pub chain_fits : ℕ → Option ℕ → Bool
chain_fits m first = option_map_or (λ k. nat_lt k m) first true

-- the value is one of this kind, in a graph of n vertices and m arc records
abbrev pub util_fits : ℕ → ℕ → Kind → Util → Bool
util_fits n m Z Nothing = true
util_fits n m I (Int i) = true
util_fits n m V (VertexField r) = ref_fits n r
util_fits n m S (Str s) = true
util_fits n m A (Chain first) = chain_fits m first
util_fits n m _ _ = false

-- as many values as kinds, each of its kind
abbrev pub utils_fit : ℕ → ℕ → List Kind → List Util → Bool
utils_fit n m [] [] = true
utils_fit n m (kind ∷ kinds) (util ∷ utils) = util_fits n m kind util && utils_fit n m kinds utils
utils_fit n m _ _ = false

-- a vertex's first arc record is there, if it has one, and its utility fields fit their kinds
abbrev pub vertex_fits : GraphData → Vertex → Bool
vertex_fits g v =
    chain_fits (length g.records) v.arcs
    && utils_fit (length g.vertices) (length g.records) (vertex_kinds g.kinds) v.util

-- where an arc record leads and the record after it are there, if any, and its utility fields fit
abbrev pub record_fits : GraphData → ArcRec → Bool
record_fits g r =
    ref_fits (length g.vertices) r.tip && chain_fits (length g.records) r.next
    && utils_fit (length g.vertices) (length g.records) (arc_kinds g.kinds) (r.a ∷ r.b ∷ [])

-- the graph's own fields, its vertices' and its records' fit
abbrev pub fields_fit : GraphData → Bool
fields_fit g =
    utils_fit (length g.vertices) (length g.records) (graph_kinds g.kinds) g.util
    && list_all (vertex_fits g) g.vertices && list_all (record_fits g) g.records

-- parts that make up a graph: not too many vertices, fields that fit their kinds, and sound lists
pub record IsGraph (g : GraphData) : Type 0 where
  pub vertices_fit : IsTrue (nat_le (length g.vertices) most_vertices)
  pub fields : IsTrue (fields_fit g)
  pub lists : IsTrue (is_sound g)
