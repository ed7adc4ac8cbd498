-- Graphs as data, and the lists of arcs that hang from their vertices [GB_GRAPH].
use Rattle.std.specs.Prelude.{◌≡◌, ℕ, zero, suc, ℤ, Bool, true, false, List, [], ◌∷◌, length, All, IsTrue, Option, slice_get}
use Rattle.std.specs.List.{flat_map}
use Rattle.std.specs.Option.{option_map_or}
use Rattle.sgb_graph.specs.declared.fields.Kind.{Kind}
use Rattle.sgb_graph.specs.declared.fields.Ref.{Ref}
use Rattle.sgb_graph.specs.declared.fields.Ref.TheVariants.{At}
use Rattle.sgb_graph.specs.declared.fields.Util.{Util}
use Rattle.sgb_graph.specs.declared.fields.Util.TheVariants.{Nothing}
use Rattle.sgb_graph.specs.declared.fields.Vertex.{Vertex}
use Rattle.sgb_graph.specs.declared.fields.ArcRec.{ArcRec}
use Rattle.sgb_graph.specs.declared.fields.Link.{Link}

-- a graph: its id, its number of arcs, what its utility fields hold (those of vertices u v w x y z, of arcs
-- a b, of the graph uu vv ww xx yy zz), the graph's own six fields, its vertices and its arc records
pub record GraphData : Type 0 where
  pub id : List ℕ
  pub m : ℕ
  pub kinds : List Kind
  pub util : List Util
  pub vertices : List Vertex
  pub records : List ArcRec

-- the utility fields a and b of an arc record hold nothing
abbrev pub HasNoFields : ArcRec → Type 0
HasNoFields r = (r.a ≡ Nothing) × (r.b ≡ Nothing)

-- a record that leads to v, with this length and no utility fields, and the record after it, if any
abbrev pub arc_record : ℕ → Option ℕ → ℤ → ArcRec
arc_record v after far = record { tip = At v; next = after; len = far; a = Nothing; b = Nothing }

-- the numbers of the records from the first one on by next; fuel is how many at most, so that this ends
unfoldable pub numbers_from : ℕ → List ArcRec → Option ℕ → List ℕ
numbers_from zero records first = []
numbers_from (suc fuel) records first =
    option_map_or (λ k. option_map_or (λ r. k ∷ numbers_from fuel records r.next) (slice_get records k) []) first []

-- the way from the first record by next comes to an end, through records that exist
unfoldable pub ends_from : ℕ → List ArcRec → Option ℕ → Bool
ends_from zero records first = option_map_or (λ k. false) first true
ends_from (suc fuel) records first =
    option_map_or (λ k. option_map_or (λ r. ends_from fuel records r.next) (slice_get records k) false) first true

-- the numbers of the records from the first one on: a way that ends meets no record twice
abbrev pub numbers_of : List ArcRec → Option ℕ → List ℕ
numbers_of records first = numbers_from (length records) records first

-- whether the way from the first record on ends
abbrev pub ends_of : List ArcRec → Option ℕ → Bool
ends_of records first = ends_from (length records) records first

-- the vertex that a tip leads to, or 0 where it leads to none
abbrev pub vertex_of : Ref → ℕ
vertex_of (At v) = v
vertex_of _ = 0

-- the arc of the record of this number, or none where there is no such record
abbrev pub link_of : List ArcRec → ℕ → List Link
link_of records k = option_map_or (λ r. record { number = k; tip = vertex_of r.tip; len = r.len } ∷ []) (slice_get records k) []

-- the list of arcs of vertex v
abbrev pub chain_of : GraphData → ℕ → List Link
chain_of g v = option_map_or (λ x. flat_map (link_of g.records) (numbers_of g.records x.arcs)) (slice_get g.vertices v) []

-- the list of each vertex comes to an end
abbrev pub ListsEnd : GraphData → Type 0
ListsEnd g = All (λ x. IsTrue (ends_of g.records x.arcs)) g.vertices
