-- How long some lists of a graph are.
use Rattle.std.specs.Prelude.{◌≡◌, ℕ, ◌+◌, ◌<◌, List, flat_map, length, Option, Some, slice_index}
use Rattle.sgb_graph.specs.Graphs.{GraphData, chain_of, link_of, numbers_of}
use Rattle.sgb_graph.specs.declared.fields.ArcRec.{ArcRec}
use Rattle.sgb_graph.specs.declared.fields.Link.{Link}

-- the arcs from a first record on
abbrev pub links_of : List ArcRec → Option ℕ → List Link
links_of records first = flat_map (link_of records) (numbers_of records first)

-- sizes of the lists of vertex v and the seven after it, where there are so many
pub record AreSizesFrom (g : GraphData) (v : ℕ) (sizes : List ℕ) : Type 0 where
  pub eight : length sizes ≡ 8
  pub known : (k : ℕ) → k < 8 → v + k < length g.vertices → slice_index sizes k ≡ length (chain_of g (v + k))

-- sizes of the lists of all vertices
pub record AreListSizes (g : GraphData) (sizes : List ℕ) : Type 0 where
  pub all : length sizes ≡ length g.vertices
  pub known : (v : ℕ) → v < length g.vertices → slice_index sizes v ≡ length (chain_of g v)

-- what is known of the lists from each record on: how long it is, or 0 where nothing is known
pub record AreKnown (records : List ArcRec) (known : List ℕ) : Type 0 where
  pub long : length known ≡ length records
  pub right : (k : ℕ) → k < length records → 0 < slice_index known k → slice_index known k ≡ length (links_of records (Some k))
