-- The pairs of the vertices of two graphs, and a graph under way whose vertices they are to be.
use Rattle.std.specs.Prelude.{ℕ, ◌≡◌, ◌≤◌, ◌*◌, Bool, List, map, flat_map, nat_lt}
use Rattle.sgb_vec.specs.Limits.{most_vertices}
use Rattle.sgb_graph.specs.Descriptions.{Description}
use Rattle.sgb_graph.specs.Graphs.{GraphData}
use Rattle.sgb_graph.specs.Growth.{HasPlainArcs}
use Rattle.sgb_graph.specs.Made.{plain}
use Rattle.sgb_graph.specs.Vertices.{names_of, order_of}
use Rattle.sgb_ops.specs.Product.{product_events}
use Rattle.sgb_ops.specs.inner.Compounds.{pair_name, product_id}
use Rattle.sgb_ops.specs.declared.products.ProductType.{ProductType}

-- it has one vertex for each pair of n and h of them, not more than a graph can have, and its arcs use no utility fields
abbrev pub HasRoomForPairs : GraphData → ℕ → ℕ → Type 0
HasRoomForPairs built n h = (n * h ≤ most_vertices) × (order_of built ≡ n * h) × HasPlainArcs built

-- the vertices of graphs with n and h of them make more pairs than a graph can have vertices
abbrev pub has_too_many_pairs : ℕ → ℕ → Bool
has_too_many_pairs n h = nat_lt most_vertices (n * h)

-- the names of the pairs of these names and those
abbrev pub paired_names : List (List ℕ) → List (List ℕ) → List (List ℕ)
paired_names first second = flat_map (λ a. map (λ b. pair_name a b) second) first

-- those of two graphs
abbrev pub names_of_pairs : GraphData → GraphData → List (List ℕ)
names_of_pairs g h = paired_names (names_of g) (names_of h)

-- the product of that type
abbrev pub product_graph : ProductType → GraphData → GraphData → Bool → Description
product_graph t g h directed =
    plain directed (product_events t g h directed) (names_of_pairs g h) (product_id g.id h.id t directed)
