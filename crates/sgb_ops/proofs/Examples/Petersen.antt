-- The graph of petersen() and its complements, as graphs.
use Rattle.std.specs.Prelude.{◌≡◌, ℕ, false, List, [], ◌∷◌, map, codes, refl}
use Rattle.sgb_vec.specs.Names.{name_of_vector}
use Rattle.sgb_graph.specs.Graphs.{GraphData, numbers_from}
use Rattle.sgb_graph.specs.Events.{Event, list_from}
use Rattle.sgb_graph.proofs.PlainGraphs.{plain_graph}
use Rattle.sgb_ops.specs.Complement.{complement_of, complement_events}
use Rattle.sgb_ops.proofs.Examples.Operands.{event, arcs}

-- an edge between disjoint pairs out of five
abbrev disjoint : List Event
disjoint =
    event 2 3 1 ∷ event 1 4 1 ∷ event 0 5 1 ∷ event 2 6 1 ∷ event 4 6 1 ∷ event 5 6 1 ∷ event 1 7 1 ∷ event 3 7 1
    ∷ event 5 7 1 ∷ event 0 8 1 ∷ event 3 8 1 ∷ event 4 8 1 ∷ event 0 9 1 ∷ event 1 9 1 ∷ event 2 9 1 ∷ []

-- the pairs out of five, as vectors
abbrev pairs : List (List ℕ)
pairs = map name_of_vector (
    (0 ∷ 0 ∷ 0 ∷ 1 ∷ 1 ∷ []) ∷ (0 ∷ 0 ∷ 1 ∷ 0 ∷ 1 ∷ []) ∷ (0 ∷ 0 ∷ 1 ∷ 1 ∷ 0 ∷ []) ∷ (0 ∷ 1 ∷ 0 ∷ 0 ∷ 1 ∷ []) ∷ (0 ∷ 1 ∷ 0 ∷ 1 ∷ 0 ∷ [])
    ∷ (0 ∷ 1 ∷ 1 ∷ 0 ∷ 0 ∷ []) ∷ (1 ∷ 0 ∷ 0 ∷ 0 ∷ 1 ∷ []) ∷ (1 ∷ 0 ∷ 0 ∷ 1 ∷ 0 ∷ []) ∷ (1 ∷ 0 ∷ 1 ∷ 0 ∷ 0 ∷ []) ∷ (1 ∷ 1 ∷ 0 ∷ 0 ∷ 0 ∷ []) ∷ [])

abbrev petersen : GraphData
petersen = plain_graph false disjoint pairs (codes "subsets(2,1,-4,0,0,0,0x1,0)")

-- a complement, as a graph with the same names
abbrev again : GraphData → GraphData
again g = plain_graph false (complement_events g false false false) pairs (codes "")

-- a complement has the 30 edges that petersen() has not, its complement the 15 again, and so on
pub petersen_complemented :
    (arcs (complement_of petersen false false false) ≡ 60)
    × (arcs (complement_of (again (again (again (again (again (again (again petersen))))))) false false false) ≡ 30)
unfolding numbers_from list_from
petersen_complemented = (refl, refl)
