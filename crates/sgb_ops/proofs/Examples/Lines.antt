-- Line graphs.
use Rattle.std.specs.Prelude.{◌≡◌, ℕ, pos, true, false, List, [], ◌∷◌, map, length, nat_lt, if◌then◌else◌, Option, Some, None, Ok, Err, codes, refl}
use Rattle.std.proofs.Common.{ap}
use Rattle.std.specs.Fmt.{digits}
use Rattle.sgb_vec.specs.Limits.{most_vertices}
use Rattle.sgb_vec.specs.declared.panics.Panic.TheVariants.{Invalid, VeryBad}
use Rattle.sgb_graph.specs.Graphs.{GraphData, numbers_from}
use Rattle.sgb_graph.specs.Events.{list_from}
use Rattle.sgb_graph.specs.Ids.{compound_id}
use Rattle.sgb_graph.specs.Made.{no_kinds, no_fields}
use Rattle.sgb_graph.specs.declared.fields.Ref.{Ref}
use Rattle.sgb_graph.specs.declared.fields.Ref.TheVariants.{At, One, Null}
use Rattle.sgb_graph.specs.declared.fields.Util.TheVariants.{Nothing}
use Rattle.sgb_taken.specs.Taken.{each_edge_once}
use Rattle.sgb_ops.specs.declared.line_graphs.line.Line.{Line}
use Rattle.sgb_ops.specs.Lines.{accepted_lines, line_graph_of, meets}
use Rattle.sgb_ops.proofs.Examples.Operands.{complete_3, cycle_3, rider_3, loop_1, blocks, arcs, names, title}

-- lines(complete(3),0)
pub lines_shown :
    (names (line_graph_of complete_3 false) ≡ codes "1--2" ∷ codes "0--2" ∷ codes "0--1" ∷ [])
    × (blocks (line_graph_of complete_3 false)
    ≡ ((codes "0--1", pos 1) ∷ (codes "0--2", pos 1) ∷ [])
    ∷ ((codes "0--1", pos 1) ∷ (codes "1--2", pos 1) ∷ [])
    ∷ ((codes "0--2", pos 1) ∷ (codes "1--2", pos 1) ∷ []) ∷ [])
    × (title (line_graph_of complete_3 false) ≡ codes "lines(board(3,0,0,0,-1,0,0),0)")
unfolding digits numbers_from list_from each_edge_once compound_id
lines_shown = (refl, refl, refl)

-- lines(cycle(3),0): arcs are no edges
pub lines_of_arcs : line_graph_of cycle_3 false ≡ Err Invalid
unfolding digits numbers_from list_from each_edge_once
lines_of_arcs = refl

-- lines(cycle(3),1): each arc leads to the next
pub lines_directed : blocks (line_graph_of cycle_3 true)
    ≡ ((codes "0->1", pos 1) ∷ []) ∷ ((codes "2->0", pos 1) ∷ []) ∷ ((codes "1->2", pos 1) ∷ []) ∷ []
unfolding digits numbers_from list_from
lines_directed = refl

-- lines(board(3,0,0,0,-1,1,0),0): names repeat
pub lines_of_rider : names (line_graph_of rider_3 false)
    ≡ codes "1--2" ∷ codes "1--2" ∷ codes "0--2" ∷ codes "0--1" ∷ codes "0--2" ∷ codes "0--1" ∷ []
unfolding digits numbers_from list_from each_edge_once
lines_of_rider = refl

-- a loop is one line, joined to no other; its two arcs are two lines, each joined to both
pub loop_lines :
    (blocks (line_graph_of loop_1 false) ≡ [] ∷ [])
    × (arcs (line_graph_of loop_1 true) ≡ 4)
unfolding digits numbers_from list_from each_edge_once
loop_lines = (refl, refl)

-- two vertices x and y, of which one has a list: record 0, which leads to itself. Record 1 has another tip
abbrev pair : ℕ → Option ℕ → Option ℕ → Ref → Ref → GraphData
pair count first second here there = record {
  id = codes "p";
  m = count;
  kinds = no_kinds;
  util = no_fields;
  vertices = record { name = codes "x"; arcs = first; util = no_fields } ∷ record { name = codes "y"; arcs = second; util = no_fields } ∷ [];
  records = record { tip = here; next = None; len = pos 1; a = Nothing; b = Nothing } ∷ record { tip = there; next = None; len = pos 1; a = Nothing; b = Nothing } ∷ [];
}

-- two vertices whose lists share one record, as a file may have them
abbrev shared : GraphData
shared = record (pair 2 (Some 0) (Some 0) (At 0) (At 0)) { records = record { tip = At 0; next = None; len = pos 1; a = Nothing; b = Nothing } ∷ [] }

pub lines_of_shared : line_graph_of shared false ≡ Err Invalid
unfolding digits numbers_from each_edge_once
lines_of_shared = refl

-- a loop at y; its other record need not be on a list
pub lines_of_half_a_loop : names (line_graph_of (pair 2 None (Some 0) (At 1) (At 1)) false) ≡ codes "y--y" ∷ []
unfolding digits numbers_from each_edge_once
lines_of_half_a_loop = refl

-- the other record leads elsewhere, or to no vertex: the null value is not vertex 0, and the value 1 is not vertex 1
pub wrong_ways_back :
    (line_graph_of (pair 2 None (Some 0) (At 1) (At 0)) false ≡ Err Invalid)
    × (line_graph_of (pair 2 None (Some 0) (At 1) One) false ≡ Err Invalid)
    × (line_graph_of (pair 2 (Some 0) None (At 0) Null) false ≡ Err Invalid)
unfolding digits numbers_from each_edge_once
wrong_ways_back = (refl, refl, refl)

-- the numbers of arcs that one line may have
pub numbers_of_arcs :
    (line_graph_of (pair 1 None (Some 0) (At 1) (At 1)) false ≡ Err Invalid)
    × (names (line_graph_of (pair 3 None (Some 0) (At 1) (At 1)) false) ≡ codes "y--y" ∷ [])
    × (line_graph_of (pair 4 None (Some 0) (At 1) (At 1)) false ≡ Err Invalid)
unfolding digits numbers_from each_edge_once
numbers_of_arcs = (refl, refl, refl)

-- of two edges one lacks its other record
abbrev half : GraphData
half = record (pair 4 (Some 0) (Some 1) (At 1) (At 0)) {
  records =
      record { tip = At 1; next = Some 2; len = pos 1; a = Nothing; b = Nothing }
      ∷ record { tip = At 0; next = None; len = pos 1; a = Nothing; b = Nothing }
      ∷ record { tip = At 1; next = None; len = pos 1; a = Nothing; b = Nothing } ∷ [];
}

pub lines_of_half : line_graph_of half false ≡ Err Invalid
unfolding digits numbers_from each_edge_once
lines_of_half = refl

-- the line from u to v
abbrev line : ℕ → ℕ → Line
line u v = record { from = u; to = v }

-- the line from 1 to 2 meets those that share one of its ends
pub lines_met : map (meets false (line 1 2)) (line 1 5 ∷ line 0 1 ∷ line 2 5 ∷ line 0 2 ∷ line 0 5 ∷ []) ≡ true ∷ true ∷ true ∷ true ∷ false ∷ []
lines_met = refl

-- as many lines as a graph can have vertices, and one more
pub most_lines : (g : GraphData) (lines : List Line) → length lines ≡ 1_000_000_000 → accepted_lines g true lines ≡ Ok lines
most_lines g lines many = ap (λ n. if nat_lt most_vertices n then Err VeryBad else Ok lines) many

pub too_many_lines : (g : GraphData) (lines : List Line) → length lines ≡ 1_000_000_001 → accepted_lines g true lines ≡ Err VeryBad
too_many_lines g lines many = ap (λ n. if nat_lt most_vertices n then Err VeryBad else Ok lines) many
