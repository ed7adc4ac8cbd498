-- The list of one vector of subsets, by a walk over the vectors from the last one back, and the events of such arcs.
use Rattle.std.specs.Prelude.{ℕ, ◌+◌, pos, Bool, true, false, List, ◌++◌, map, filter, reverse, take, drop}
use Rattle.sgb_graph.specs.Events.{Event}
use Rattle.sgb_gen.specs.LocalLists.{LocalArc}
use Rattle.sgb_gen.specs.Subsets.{common_size, is_wanted_size}
use Rattle.sgb_gen.specs.VectorGraphs.{vertex_among}

-- the arcs of x to those of these vectors that have a wanted size in common with it
abbrev pub arcs_to : ℕ → List ℕ → List (List ℕ) → List LocalArc
arcs_to size_bits x vectors =
    map (λ y. record { tip = y; len = pos 1 }) (filter (λ y. is_wanted_size size_bits (common_size x y)) vectors)

-- the list of x: the arcs to the vectors from the last one back to x itself, and in an undirected graph then those
-- from x back to the first one, so that x stands there twice
abbrev pub arcs_by_walk : Bool → ℕ → List (List ℕ) → List ℕ → List LocalArc
arcs_by_walk true size_bits vectors x = arcs_to size_bits x (reverse (drop (vertex_among vectors x) vectors))
arcs_by_walk false size_bits vectors x =
    arcs_to size_bits x (reverse (drop (vertex_among vectors x) vectors))
    ++ arcs_to size_bits x (reverse (take (vertex_among vectors x + 1) vectors))

-- the events to vertex v from the vertices of some arcs, the last one first
abbrev pub events_onto : List (List ℕ) → ℕ → List LocalArc → List Event
events_onto vectors v arcs =
    map (λ arc. record { from = vertex_among vectors arc.tip; to = v; len = pos 1 }) (reverse arcs)
