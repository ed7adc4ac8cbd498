-- How the examples show a graph: its id, its number of arcs, and each vertex with its list.
use Prim.Native.String.{String}
use Rattle.std.specs.Prelude.{ℕ, ℤ, pos, List, [], length, map, slice_index_or, Result, Ok, Err, codes}
use Rattle.std.specs.List.{range_with_len}
use Rattle.sgb_vec.specs.declared.panics.Panic.{Panic}
use Rattle.sgb_graph.specs.Events.{all_records, list_of}
use Rattle.sgb_graph.specs.Descriptions.{Description}
use Rattle.sgb_graph.specs.declared.fields.Link.{Link}

-- an arc, shown by the name of its tip and its length
pub record Shown : Type 0 where
  pub tip : List ℕ
  pub len : ℤ

abbrev pub arc : String → ℕ → Shown
arc tip len = record { tip = codes tip; len = pos len }

-- a vertex, shown by its name and the arcs of its list
pub record Block : Type 0 where
  pub name : List ℕ
  pub arcs : List Shown

abbrev pub block : String → List Shown → Block
block name arcs = record { name = codes name; arcs = arcs }

-- the arcs of the list of vertex v
abbrev pub arcs_of : Description → ℕ → List Shown
arcs_of d v =
    map (λ (l : Link). record { tip = slice_index_or d.names l.tip []; len = l.len }) (list_of d.directed d.events v)

-- how many arcs there are
abbrev pub arcs_count : Description → ℕ
arcs_count d = length (all_records d.directed d.events)

-- vertex v
abbrev pub block_of : Description → ℕ → Block
block_of d v = record { name = slice_index_or d.names v []; arcs = arcs_of d v }

pub record Listing : Type 0 where
  pub id : List ℕ
  pub vertices : ℕ
  pub arcs : ℕ
  pub blocks : List Block

abbrev pub listing : String → ℕ → List Block → Listing
listing id arcs blocks = record { id = codes id; vertices = length blocks; arcs = arcs; blocks = blocks }

-- a graph with its first vertices only
abbrev pub part : String → ℕ → ℕ → List Block → Listing
part id vertices arcs blocks = record { id = codes id; vertices = vertices; arcs = arcs; blocks = blocks }

abbrev pub listing_of : Description → Listing
listing_of d = record {
  id = d.id;
  vertices = length d.names;
  arcs = arcs_count d;
  blocks = map (block_of d) (range_with_len 0 (length d.names));
}

abbrev pub part_of : ℕ → Description → Listing
part_of n d = record {
  id = d.id;
  vertices = length d.names;
  arcs = arcs_count d;
  blocks = map (block_of d) (range_with_len 0 n);
}

-- the same of a graph that may be refused
abbrev pub shown_by : {T : Type 0} → (Description → T) → Result Description Panic → Result T Panic
shown_by f (Ok d) = Ok (f d)
shown_by f (Err e) = Err e
