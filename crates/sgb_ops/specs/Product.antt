-- The products of two graphs, on the pairs of their vertices [GB_BASIC, product].
use Rattle.std.specs.Prelude.{ℕ, ℤ, ◌+◌, ◌*◌, ◌%◌, ◌==◌, Bool, List, [], ◌∷◌, ◌++◌, map, flat_map, codes, decimal, nat_lt, unsigned_abs, if◌then◌else◌, Result, Ok, Err}
use Rattle.sgb_vec.specs.Limits.{most_vertices}
use Rattle.sgb_vec.specs.declared.panics.Panic.{Panic}
use Rattle.sgb_vec.specs.declared.panics.Panic.TheVariants.{VeryBad}
use Rattle.sgb_graph.specs.Graphs.{GraphData, chain_of}
use Rattle.sgb_graph.specs.Events.{Event}
use Rattle.sgb_graph.specs.Ids.{double_compound_id}
use Rattle.sgb_graph.specs.Descriptions.{Description}
use Rattle.sgb_graph.specs.Made.{plain}
use Rattle.std.specs.Int.{int_min}
use Rattle.sgb_graph.specs.Vertices.{order_of, places_of, names_of}
use Rattle.sgb_taken.specs.Taken.{taken}
use Rattle.sgb_graph.specs.IdTexts.{flag_text}
use Rattle.sgb_ops.specs.Compounds.{closing, joined_name}
use Rattle.sgb_ops.specs.declared.products.ProductType.{ProductType}
use Rattle.sgb_ops.specs.declared.products.ProductType.TheVariants.{Cartesian, Direct, Strong}

-- 0 is the cartesian product, an odd number the direct one, any other even number the strong one
abbrev pub product_type : ℤ → ProductType
product_type kind = if unsigned_abs kind == 0 then Cartesian else (if unsigned_abs kind % 2 == 1 then Direct else Strong)

-- the number of a product in its id
abbrev pub type_number : ProductType → ℕ
type_number Cartesian = 0
type_number Direct = 1
type_number Strong = 2

-- a step of this length from pair p to pair q: the pairs of a vertex and a vertex of h stand in lexicographic order
abbrev pub step : GraphData → ℕ × ℕ → ℕ × ℕ → ℤ → Event
step h p q far = record { from = p.0 * order_of h + p.1; to = q.0 * order_of h + q.1; len = far }

-- steps in the second coordinate, for each y, each arc taken of it and each x; then in the first, for each x, each arc, each y
abbrev pub single_steps : GraphData → GraphData → Bool → List Event
single_steps g h directed =
    flat_map (λ y. flat_map (λ b. map (λ x. step h (x, y) (x, b.tip) b.len) (places_of g)) (taken directed h y)) (places_of h)
    ++ flat_map (λ x. flat_map (λ a. map (λ y. step h (x, y) (a.tip, y) a.len) (places_of h)) (taken directed g x)) (places_of g)

-- the steps in both, with the lesser length: for each x, each y, each arc taken of x, and each of y's whole list
abbrev pub both_steps : GraphData → GraphData → Bool → List Event
both_steps g h directed = flat_map (λ x. flat_map (λ y. flat_map (λ a.
    map (λ b. step h (x, y) (a.tip, b.tip) (int_min a.len b.len)) (chain_of h y))
    (taken directed g x)) (places_of h)) (places_of g)

-- the cartesian product steps in one coordinate, the direct one in both; the strong one has the former's and then the latter's
abbrev pub product_events : ProductType → GraphData → GraphData → Bool → List Event
product_events Cartesian g h directed = single_steps g h directed
product_events Direct g h directed = both_steps g h directed
product_events Strong g h directed = single_steps g h directed ++ both_steps g h directed

-- product(g, h, kind, directed): refused where there are more pairs than a graph can have vertices
abbrev pub product_graph_of : GraphData → GraphData → ℤ → Bool → Result Description Panic
product_graph_of g h kind directed = if nat_lt most_vertices (order_of g * order_of h) then Err VeryBad
    else Ok (plain directed (product_events (product_type kind) g h directed)
    (flat_map (λ a. map (λ b. joined_name a (codes ",") b) (names_of h)) (names_of g))
    (double_compound_id (codes "product(") g.id (codes ",") h.id
    (closing (decimal (type_number (product_type kind)) ∷ flag_text directed ∷ []))))
