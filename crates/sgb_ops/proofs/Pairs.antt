-- The pairs of vertices of two graphs: how many there are, and their names.
use Rattle.sgb_vec.proofs.Common.{◌≡◌, ◌*◌, List, [], ◌∷◌, length, map, length-append, arith, flat_map, add-mul, length-map}
use Rattle.sgb_graph.specs.Graphs.{GraphData}
use Rattle.sgb_graph.specs.Vertices.{order_of}
use Rattle.sgb_ops.specs.inner.Pairs.{names_of_pairs}

-- what is made of each pair of two lists
count_pairs : {X Y : Type 0} (f : X → X → Y) (xs ys : List X) → length (flat_map (λ x. map (f x) ys) xs) ≡ length xs * length ys
count_pairs f [] ys = omega arith
count_pairs f (x ∷ xs) ys = grind (arith, length-map, length-append, add-mul, count_pairs f xs ys)

-- there is a name for each pair
pub length-names_of_pairs : (g h : GraphData) → length (names_of_pairs g h) ≡ order_of g * order_of h
length-names_of_pairs g h = simp (count_pairs, length-map)
