-- What bi_complete and wheel make of boards, and of the induced graph [GB_BASIC, bi_complete and wheel].
use Rattle.std.specs.Prelude.{ℤ, pos, ◌++◌, ◌∷◌, Bool, replicate, Result, Ok}
use Rattle.sgb_vec.specs.Results.{and_then}
use Rattle.sgb_vec.specs.declared.panics.Panic.{Panic}
use Rattle.sgb_gen.specs.Boards.{board}
use Rattle.sgb_gen.specs.Shorthands.{line}
use Rattle.sgb_gen.specs.declared.params.BoardParams.{BoardParams}
use Rattle.sgb_graph.specs.Descriptions.{Description}
use Rattle.sgb_graph.specs.Made.{graph_described}
use Rattle.sgb_graph.specs.declared.fields.Kind.TheVariants.{Z, I}
use Rattle.sgb_graph.specs.declared.fields.Util.TheVariants.{Nothing, Int}
use Rattle.sgb_ops.specs.declared.induced_graphs.entries.Entry.{Entry}
use Rattle.sgb_ops.specs.declared.induced_graphs.entries.Entry.TheVariants as entry
use Rattle.sgb_ops.specs.inner.Compounds.{bi_complete_id, wheel_id}

-- board(n,0,0,0,1,1,directed): a cycle of n vertices, and where n is not positive the board of 8 by 8
abbrev pub rim_of_wheel : ℤ → Bool → BoardParams
rim_of_wheel n directed = line n (pos 1) (pos 1) directed

-- the entry of the rim, or why that is refused
abbrev pub rim_entry : ℤ → Bool → Result Entry Panic
rim_entry n directed = and_then (board (rim_of_wheel n directed)) (λ d. Ok (entry.Graph (graph_described d)))

-- the graph with the id of a complete bipartite graph, and with n1 in the field uu
abbrev pub with_parts : ℤ → ℤ → Bool → Description → Description
with_parts n1 n2 directed d =
    record d { kinds = replicate 8 Z ++ I ∷ replicate 5 Z; util = Int n1 ∷ replicate 5 Nothing; id = bi_complete_id n1 n2 directed }

-- the graph with the id of a wheel
abbrev pub with_wheel_id : ℤ → ℤ → Bool → Description → Description
with_wheel_id n n1 directed d = record d { id = wheel_id n n1 directed }
