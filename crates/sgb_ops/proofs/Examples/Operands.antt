-- The small graphs of the examples, and what the examples ask of a result.
use Rattle.std.specs.Prelude.{ℕ, ℤ, pos, true, false, List, [], ◌∷◌, map, length, slice_get, codes, decimal, Result, Ok, Err}
use Rattle.std.specs.List.{range_with_len}
use Rattle.std.specs.Option.{option_map_or}
use Rattle.sgb_vec.specs.declared.panics.Panic.{Panic}
use Rattle.sgb_graph.specs.Graphs.{GraphData}
use Rattle.sgb_graph.specs.Events.{Event, all_records, list_of}
use Rattle.sgb_graph.specs.Descriptions.{Description}
use Rattle.sgb_graph.proofs.PlainGraphs.{plain_graph}
use Rattle.sgb_graph.specs.declared.fields.Kind.{Kind}
use Rattle.sgb_graph.specs.declared.fields.Util.{Util}
use Rattle.sgb_graph.specs.declared.fields.Link.{Link}

-- an event of this length
abbrev pub event : ℕ → ℕ → ℕ → Event
event u v l = record { from = u; to = v; len = pos l }

-- an arc of a list
abbrev pub link : ℕ → ℕ → ℕ → Link
link k v l = record { number = k; tip = v; len = pos l }

-- the names 0 to n - 1
abbrev pub numbers : ℕ → List (List ℕ)
numbers n = map decimal (range_with_len 0 n)

abbrev pub complete_2 : GraphData
complete_2 = plain_graph false (event 0 1 1 ∷ []) (numbers 2) (codes "board(2,0,0,0,-1,0,0)")

abbrev pub complete_3 : GraphData
complete_3 = plain_graph false (event 0 1 1 ∷ event 0 2 2 ∷ event 1 2 1 ∷ []) (numbers 3) (codes "board(3,0,0,0,-1,0,0)")

abbrev pub complete_4 : GraphData
complete_4 = plain_graph false (event 0 1 1 ∷ event 0 2 2 ∷ event 0 3 3 ∷ event 1 2 1 ∷ event 1 3 2 ∷ event 2 3 1 ∷ []) (numbers 4) (codes "board(4,0,0,0,-1,0,0)")

abbrev pub circuit_3 : GraphData
circuit_3 = plain_graph false (event 0 1 1 ∷ event 1 2 1 ∷ event 2 0 1 ∷ []) (numbers 3) (codes "board(3,0,0,0,1,1,0)")

abbrev pub circuit_4 : GraphData
circuit_4 = plain_graph false (event 0 1 1 ∷ event 1 2 1 ∷ event 2 3 1 ∷ event 3 0 1 ∷ []) (numbers 4) (codes "board(4,0,0,0,1,1,0)")

abbrev pub cycle_3 : GraphData
cycle_3 = plain_graph true (event 0 1 1 ∷ event 1 2 1 ∷ event 2 0 1 ∷ []) (numbers 3) (codes "board(3,0,0,0,1,1,1)")

-- board(3,0,0,0,1,0,0)
abbrev pub path_3 : GraphData
path_3 = plain_graph false (event 0 1 1 ∷ event 1 2 1 ∷ []) (numbers 3) (codes "board(3,0,0,0,1,0,0)")

-- board(3,0,0,0,-1,1,0): a rider that goes round
abbrev pub rider_3 : GraphData
rider_3 = plain_graph false (event 0 1 1 ∷ event 0 2 2 ∷ event 1 2 1 ∷ event 1 0 2 ∷ event 2 0 1 ∷ event 2 1 2 ∷ []) (numbers 3) (codes "board(3,0,0,0,-1,1,0)")

-- board(1,0,0,0,1,1,0): one vertex with a loop
abbrev pub loop_1 : GraphData
loop_1 = plain_graph false (event 0 0 1 ∷ []) (numbers 1) (codes "board(1,0,0,0,1,1,0)")

-- a tip by its name, and the length
abbrev pub named_tip : Description → Link → List ℕ × ℤ
named_tip d l = (option_map_or (λ text. text) (slice_get d.names l.tip) [], l.len)

-- the arcs of vertex v
abbrev pub block_of : Description → ℕ → List (List ℕ × ℤ)
block_of d v = map (named_tip d) (list_of d.directed d.events v)

-- of a result that is not refused: the arcs of each vertex, the number of arcs, the names, the id, what
-- its utility fields hold, the graph's own
abbrev pub block : Result Description Panic → ℕ → List (List ℕ × ℤ)
block (Ok d) v = block_of d v
block (Err p) v = []

abbrev pub blocks : Result Description Panic → List (List (List ℕ × ℤ))
blocks (Ok d) = map (block_of d) (range_with_len 0 (length d.names))
blocks (Err p) = []

abbrev pub arcs : Result Description Panic → ℕ
arcs (Ok d) = length (all_records d.directed d.events)
arcs (Err p) = 0

abbrev pub names : Result Description Panic → List (List ℕ)
names (Ok d) = d.names
names (Err p) = []

abbrev pub title : Result Description Panic → List ℕ
title (Ok d) = d.id
title (Err p) = []

abbrev pub kinds : Result Description Panic → List Kind
kinds (Ok d) = d.kinds
kinds (Err p) = []

abbrev pub fields : Result Description Panic → List Util
fields (Ok d) = d.util
fields (Err p) = []
