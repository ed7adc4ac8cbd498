-- Products.
use Rattle.std.specs.Prelude.{◌≡◌, ◌*◌, ℕ, pos, negsuc, true, false, [], ◌∷◌, map, take, nat_lt, if◌then◌else◌, Result, Ok, Err, is_ok, codes, refl}
use Rattle.std.proofs.Common.{ap, ap₂}
use Rattle.std.specs.Fmt.{digits}
use Rattle.sgb_vec.specs.Limits.{most_vertices}
use Rattle.sgb_vec.specs.declared.panics.Panic.{Panic}
use Rattle.sgb_vec.specs.declared.panics.Panic.TheVariants.{VeryBad}
use Rattle.sgb_graph.specs.Descriptions.{Description}
use Rattle.sgb_graph.specs.Vertices.{order_of}
use Rattle.sgb_graph.specs.Graphs.{GraphData, numbers_from}
use Rattle.sgb_graph.specs.Events.{list_from}
use Rattle.sgb_graph.specs.Ids.{double_compound_id}
use Rattle.sgb_taken.specs.Taken.{each_edge_once}
use Rattle.sgb_ops.specs.declared.products.ProductType.TheVariants.{Cartesian, Direct, Strong}
use Rattle.sgb_ops.specs.Product.{both_steps, product_type, type_number, product_events, product_graph_of}
use Rattle.sgb_ops.specs.inner.Pairs.{has_too_many_pairs}
use Rattle.sgb_ops.proofs.Examples.Operands.{event, path_3, complete_2, complete_3, blocks, block, arcs, names, title}

-- product(complete(2),complete(2),0,0)
pub product_shown :
    (names (product_graph_of complete_2 complete_2 (pos 0) false)
    ≡ codes "0,0" ∷ codes "0,1" ∷ codes "1,0" ∷ codes "1,1" ∷ [])
    × (blocks (product_graph_of complete_2 complete_2 (pos 0) false)
    ≡ ((codes "1,0", pos 1) ∷ (codes "0,1", pos 1) ∷ [])
    ∷ ((codes "1,1", pos 1) ∷ (codes "0,0", pos 1) ∷ [])
    ∷ ((codes "0,0", pos 1) ∷ (codes "1,1", pos 1) ∷ [])
    ∷ ((codes "0,1", pos 1) ∷ (codes "1,0", pos 1) ∷ []) ∷ [])
    × (map (λ kind. arcs (product_graph_of complete_2 complete_2 (pos kind) false)) (0 ∷ 1 ∷ 2 ∷ []) ≡ 8 ∷ 4 ∷ 12 ∷ [])
unfolding digits numbers_from list_from each_edge_once
product_shown = (refl, refl, refl)

-- type 3 acts and prints as 1
pub direct_title : title (product_graph_of complete_2 complete_2 (pos 3) false) ≡ codes "product(board(2,0,0,0,-1,0,0),board(2,0,0,0,-1,0,0),1,0)"
unfolding digits double_compound_id
direct_title = refl

-- other even numbers act as 2, negative ones too
pub types : map product_type (pos 0 ∷ pos 1 ∷ pos 2 ∷ pos 3 ∷ pos 4 ∷ negsuc 0 ∷ negsuc 1 ∷ negsuc 2 ∷ [])
    ≡ Cartesian ∷ Direct ∷ Strong ∷ Direct ∷ Strong ∷ Direct ∷ Strong ∷ Direct ∷ []
types = refl

-- the number of each in an id
pub type_numbers : map type_number (Cartesian ∷ Direct ∷ Strong ∷ []) ≡ 0 ∷ 1 ∷ 2 ∷ []
type_numbers = refl

-- the length of a direct arc is the lesser one: 1 of the edge and 2 of the edge from 0 to 2
pub lesser_length : block (product_graph_of complete_2 complete_3 (pos 1) false) 0 ≡ (codes "1,1", pos 1) ∷ (codes "1,2", pos 1) ∷ []
unfolding digits numbers_from list_from each_edge_once
lesser_length = refl

-- 40,000 by 40,000 vertices are too many, 1,000 by 1,000,000 are not
pub vertices_counted :
    (has_too_many_pairs 40_000 40_000 ≡ true)
    × (has_too_many_pairs 1_000 1_000_000 ≡ false)
vertices_counted = (refl, refl)

-- so with graphs of as many vertices
pub too_many_pairs : (g h : GraphData) → order_of g ≡ 40_000 → order_of h ≡ 40_000 → product_graph_of g h (pos 0) false ≡ Err VeryBad
too_many_pairs g h first second = refused _ _ (ap₂ (λ n k. n * k) first second)
  where
    refused : (n : ℕ) (d : Result Description Panic) → n ≡ 1_600_000_000 → (if nat_lt most_vertices n then Err VeryBad else d) ≡ Err VeryBad
    refused n d many = ap (λ n. if nat_lt most_vertices n then Err VeryBad else d) many

pub most_pairs : (g h : GraphData) → order_of g ≡ 1_000 → order_of h ≡ 1_000_000 → is_ok (product_graph_of g h (pos 0) false) ≡ true
most_pairs g h first second = accepted _ _ (ap₂ (λ n k. n * k) first second)
  where
    accepted : (n : ℕ) (d : Description) → n ≡ 1_000_000_000 → is_ok (if nat_lt most_vertices n then Err VeryBad else Ok d) ≡ true
    accepted n d many = ap (λ n. is_ok (if nat_lt most_vertices n then Err VeryBad else Ok d)) many

-- the names of pairs of different operands, in lexicographic order
pub different_operands :
    (names (product_graph_of complete_3 complete_2 (pos 0) false)
    ≡ codes "0,0" ∷ codes "0,1" ∷ codes "1,0" ∷ codes "1,1" ∷ codes "2,0" ∷ codes "2,1" ∷ [])
    × (title (product_graph_of complete_3 path_3 (negsuc 1) true) ≡ codes "product(board(3,0,0,0,-1,0,0),board(3,0,0,0,1,0,0),2,1)")
unfolding digits double_compound_id
different_operands = (refl, refl)

-- the pair (x, y) of a triangle and an edge is vertex 2 x + y: its steps in the second coordinate come first, then those
-- in the first, where the edge of length 2 leads each list
pub cartesian_events : product_events Cartesian complete_3 complete_2 false
    ≡ event 0 1 1 ∷ event 2 3 1 ∷ event 4 5 1
    ∷ event 0 4 2 ∷ event 1 5 2 ∷ event 0 2 1 ∷ event 1 3 1 ∷ event 2 4 1 ∷ event 3 5 1 ∷ []
unfolding digits numbers_from list_from each_edge_once
cartesian_events = refl

-- an edge and a triangle: (x, y) is vertex 3 x + y
pub cartesian_events_turned : product_events Cartesian complete_2 complete_3 false
    ≡ event 0 2 2 ∷ event 3 5 2 ∷ event 0 1 1 ∷ event 3 4 1 ∷ event 1 2 1 ∷ event 4 5 1
    ∷ event 0 3 1 ∷ event 1 4 1 ∷ event 2 5 1 ∷ []
unfolding digits numbers_from list_from each_edge_once
cartesian_events_turned = refl

-- the lesser length is 1 where the edge of the first has length 2; both arcs of the second's edge count
pub direct_steps :
    (product_events Direct complete_3 complete_2 false
    ≡ event 0 5 1 ∷ event 0 3 1 ∷ event 1 4 1 ∷ event 1 2 1 ∷ event 2 5 1 ∷ event 3 4 1 ∷ [])
    × (product_events Direct complete_2 complete_3 false
    ≡ event 0 5 1 ∷ event 0 4 1 ∷ event 1 5 1 ∷ event 1 3 1 ∷ event 2 4 1 ∷ event 2 3 1 ∷ [])
unfolding digits numbers_from list_from each_edge_once
direct_steps = (refl, refl)

-- with each arc of the first go all of the second; two edges of length 2 make one of length 2
pub direct_events_of_triangles : take 4 (both_steps complete_3 complete_3 false)
    ≡ event 0 8 2 ∷ event 0 7 1 ∷ event 0 5 1 ∷ event 0 4 1 ∷ []
unfolding digits numbers_from list_from each_edge_once
direct_events_of_triangles = refl

-- the direct steps of the strong product come last
pub strong_events : product_events Strong complete_2 complete_2 false
    ≡ event 0 1 1 ∷ event 2 3 1 ∷ event 0 2 1 ∷ event 1 3 1 ∷ event 0 3 1 ∷ event 1 2 1 ∷ []
unfolding digits numbers_from list_from each_edge_once
strong_events = refl

-- of different operands too
pub strong_events_of_two : product_events Strong complete_3 complete_2 false
    ≡ event 0 1 1 ∷ event 2 3 1 ∷ event 4 5 1
    ∷ event 0 4 2 ∷ event 1 5 2 ∷ event 0 2 1 ∷ event 1 3 1 ∷ event 2 4 1 ∷ event 3 5 1
    ∷ event 0 5 1 ∷ event 0 3 1 ∷ event 1 4 1 ∷ event 1 2 1 ∷ event 2 5 1 ∷ event 3 4 1 ∷ []
unfolding digits numbers_from list_from each_edge_once
strong_events_of_two = refl

-- for arcs both records of an edge are taken
pub directed_events : map (λ t. product_events t complete_2 complete_2 true) (Cartesian ∷ Direct ∷ [])
    ≡ (event 0 1 1 ∷ event 2 3 1 ∷ event 1 0 1 ∷ event 3 2 1 ∷ event 0 2 1 ∷ event 1 3 1 ∷ event 2 0 1 ∷ event 3 1 1 ∷ [])
    ∷ (event 0 3 1 ∷ event 1 2 1 ∷ event 2 1 1 ∷ event 3 0 1 ∷ []) ∷ []
unfolding digits numbers_from list_from each_edge_once
directed_events = refl
