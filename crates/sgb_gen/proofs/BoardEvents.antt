-- The events of a board, as its moves are made one after another.
use Rattle.std.proofs.Common.{arith, ◌≡◌, ℕ, ◌+◌, ◌≤◌, ℤ, pos, nat_abs, Bool, List, [], ◌∷◌, ◌++◌, length, map, Some, None, sym, ap}
use Rattle.std.specs.List.{flat_map, slice_get}
use Rattle.std.specs.Option.{option_map}
use Rattle.sgb_vec.specs.Boxes.{box}
use Rattle.sgb_graph.specs.Events.{Event}
use Rattle.sgb_graph.specs.Graphs.{GraphData}
use Rattle.sgb_graph.specs.Growth.{AddsEvents}
use Rattle.sgb_gen.specs.Boards.{BoardData, moves_of_board}
use Rattle.sgb_moves.specs.Displacements.{displacements}
use Rattle.sgb_gen.specs.VectorGraphs.{event_among, vertex_among}
use Rattle.sgb_moves.specs.Moves.{sides_of, moves_from, board_moves}
use Rattle.sgb_moves.proofs.AllVectors.{flat_map-same}
use Rattle.sgb_gen.proofs.FamilyWalks.{map-flat_map}
use Rattle.sgb_gen.proofs.Vertices.{vertex_in_box}
use Rattle.sgb_gen.proofs.BoardWalks.{leads, longest, moves_left, left-all, left-out, left-next, led_nowhere, led_to}

-- the events of the moves from x by t
abbrev pub events_from : BoardData → List ℤ → List ℕ → List Event
events_from b t x = map (event_among (box b.sizes)) (moves_from (sides_of b.sizes b.wrap) b.piece x t)

-- those of the lengths from l on
abbrev pub events_left : BoardData → List ℤ → List ℕ → ℕ → List Event
events_left b t x l = map (event_among (box b.sizes)) (moves_left b t x l)

-- at length 1 all are left
pub events_left-all : (b : BoardData) (t : List ℤ) (x : List ℕ) → events_left b t x 1 ≡ events_from b t x
events_left-all b t x = ap (map (event_among (box b.sizes))) (left-all b t x)

-- where the piece leads nowhere none are left
pub events_left-out : (b : BoardData) (t : List ℤ) (x : List ℕ) (l : ℕ) → l ≤ longest b → option_map (vertex_among (box b.sizes)) (leads b x t l) ≡ None → events_left b t x l ≡ []
events_left-out b t x l h e =
    ap (map (event_among (box b.sizes))) (left-out b t x l h (led_nowhere (vertex_among (box b.sizes)) (leads b x t l) e))

-- where it leads to a vertex the event there is the next
pub events_left-next : (b : BoardData) (t : List ℤ) (x : List ℕ) (l u v : ℕ) → l ≤ longest b → slice_get (box b.sizes) u ≡ Some x → option_map (vertex_among (box b.sizes)) (leads b x t l) ≡ Some v → events_left b t x l ≡ (record { from = u; to = v; len = pos l } ∷ []) ++ events_left b t x (l + 1)
events_left-next b t x l u v h at e = grind (arith, led_to, leads, left-next, vertex_in_box)

-- the events of the moves by t, and those of all moves
abbrev pub events_by : BoardData → List ℤ → List Event
events_by b t = flat_map (events_from b t) (box b.sizes)

abbrev pub events_of : BoardData → List Event
events_of b = flat_map (events_by b) (displacements (nat_abs b.piece) (length b.sizes))

-- they are the definition's
pub events_by-moves : (b : BoardData) (t : List ℤ) → events_by b t ≡ map (event_among (box b.sizes)) (flat_map (λ x. moves_from (sides_of b.sizes b.wrap) b.piece x t) (box b.sizes))
events_by-moves b t = sym (map-flat_map (event_among (box b.sizes)) (λ x. moves_from (sides_of b.sizes b.wrap) b.piece x t) (box b.sizes))

pub events_of-moves : (b : BoardData) → events_of b ≡ map (event_among (box b.sizes)) (moves_of_board b)
unfolding board_moves
events_of-moves b = grind (arith, flat_map-same, events_by-moves, map-flat_map)

-- an event by the values that its flag and its length are
pub event_as : (d directed : Bool) (old new : GraphData) (u v : ℕ) (n len : ℤ) → d ≡ directed → n ≡ len → AddsEvents d old new (record { from = u; to = v; len = n } ∷ []) → AddsEvents directed old new (record { from = u; to = v; len = len } ∷ [])
event_as d directed old new u v n len e far h = grind arith
