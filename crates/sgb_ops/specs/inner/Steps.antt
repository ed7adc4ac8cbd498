-- The steps of a product, part by part [GB_BASIC, product].
use Rattle.std.specs.Prelude.{ℕ, ◌+◌, ◌*◌, Bool, List, map, flat_map}
use Rattle.std.specs.Int.{int_min}
use Rattle.std.specs.List.{range_with_len}
use Rattle.sgb_graph.specs.Events.{Event}
use Rattle.sgb_graph.specs.Graphs.{GraphData, chain_of}
use Rattle.sgb_graph.specs.Vertices.{order_of, places_of}
use Rattle.sgb_graph.specs.declared.fields.Link.{Link}
use Rattle.sgb_taken.specs.Taken.{taken}
use Rattle.sgb_ops.specs.declared.products.steps.Axis.{Axis}
use Rattle.sgb_ops.specs.declared.products.steps.Axis.TheVariants.{First, Second}

-- the place of the pair (x, y), where y is below h: the pairs are in lexicographic order
abbrev pub pair_place : ℕ → ℕ → ℕ → ℕ
pair_place h x y = x * h + y

-- the place of the pair of v, one of n vertices along an axis, and w, one of h beside it
abbrev pub place_along : Axis → ℕ → ℕ → ℕ → ℕ → ℕ
place_along First n h v w = pair_place h v w
place_along Second n h v w = pair_place n w v

-- a step along an axis: an arc a from v, beside w
abbrev pub step_along : Axis → ℕ → ℕ → ℕ → Link → ℕ → Event
step_along axis n h v a w = record { from = place_along axis n h v w; to = place_along axis n h a.tip w; len = a.len }

-- both at once, with the lesser length
abbrev pub both_step : ℕ → ℕ → ℕ → Link → Link → Event
both_step h x y a b = record { from = pair_place h x y; to = pair_place h a.tip b.tip; len = int_min a.len b.len }

-- the steps along an axis by these arcs of v: for each of them, each w beside
abbrev pub steps_by : Axis → ℕ → ℕ → ℕ → List Link → List Event
steps_by axis n h v arcs = flat_map (λ a. map (step_along axis n h v a) (range_with_len 0 h)) arcs

-- all steps along an axis, for each v by the arcs taken of it
abbrev pub steps_along : Axis → GraphData → ℕ → Bool → List Event
steps_along axis along h directed =
    flat_map (λ v. steps_by axis (order_of along) h v (taken directed along v)) (places_of along)

-- the steps in both from (x, y), by these arcs of x and of y
abbrev pub both_steps_by : ℕ → ℕ → ℕ → List Link → List Link → List Event
both_steps_by h x y row others = flat_map (λ a. map (both_step h x y a) others) row

-- those from all pairs of x by these arcs of it, in the order of y, by each of y's whole list
abbrev pub both_steps_of_row : GraphData → ℕ → List Link → List Event
both_steps_of_row h x row = flat_map (λ y. both_steps_by (order_of h) x y row (chain_of h y)) (places_of h)
