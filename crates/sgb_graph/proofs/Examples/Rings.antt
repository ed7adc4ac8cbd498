-- A record that is its own next one makes a ring: its vertex has the arcs of one event as far as they are read, but
-- no list that ends.
use Rattle.std.specs.Prelude.{◌≡◌, pos, true, List, [], ◌∷◌, codes, refl, Some, map}
use Rattle.std.proofs.Common.{arith}
use Rattle.sgb_graph.specs.Graphs.{GraphData, numbers_from, ends_from, chain_of, ends_of}
use Rattle.sgb_graph.specs.Events.{Event, all_records, list_from, list_of}
use Rattle.sgb_graph.specs.Descriptions.{IsGraphOf}
use Rattle.sgb_graph.specs.Made.{no_fields, no_kinds, plain}
use Rattle.sgb_graph.specs.declared.fields.Ref.TheVariants.{At}
use Rattle.sgb_graph.specs.declared.fields.Util.TheVariants.{Nothing}
use Rattle.sgb_graph.specs.declared.fields.Vertex.{Vertex}

-- an arc from the one vertex to itself
abbrev loop : List Event
loop = record { from = 0; to = 0; len = pos 1 } ∷ []

abbrev vertex : Vertex
vertex = record { name = codes "a"; arcs = Some 0; util = no_fields }

abbrev ring : GraphData
ring = record {
  id = codes "g";
  m = 1;
  kinds = no_kinds;
  util = no_fields;
  vertices = vertex ∷ [];
  records = record { tip = At 0; next = Some 0; len = pos 1; a = Nothing; b = Nothing } ∷ [];
}

-- what is read of it is that of the arc
pub ring_list : chain_of ring 0 ≡ list_of true loop 0
unfolding list_from numbers_from
ring_list = refl

pub ring_tips : map (λ r. r.tip) ring.records ≡ map (λ r. At r.tip) (all_records true loop)
ring_tips = refl

-- and yet it is not the graph of the arc
pub ring_is_not_graph : IsGraphOf (plain true loop (codes "a" ∷ []) (codes "g")) ring → ⊥
unfolding ends_from
ring_is_not_graph h = let ends : ends_of ring.records vertex.arcs ≡ true = h.arcs.ends 0 vertex (omega arith) in absurd cc
