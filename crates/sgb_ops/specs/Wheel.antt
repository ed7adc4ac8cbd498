-- Wheels: n1 vertices in the middle, each joined to all n vertices of a rim [GB_BASIC, wheel].
use Rattle.std.specs.Prelude.{ℤ, pos, negsuc, Bool, false, [], ◌∷◌, ◌++◌, codes, nat_lt, if◌then◌else◌, Result, Ok, Err}
use Rattle.std.specs.Fmt.{signed_decimal}
use Rattle.sgb_vec.specs.Limits.{most_vertices}
use Rattle.sgb_vec.specs.Results.{and_then}
use Rattle.sgb_vec.specs.declared.panics.Panic.{Panic}
use Rattle.sgb_vec.specs.declared.panics.Panic.TheVariants.{Bad, VeryBad}
use Rattle.sgb_graph.specs.Descriptions.{Description}
use Rattle.sgb_graph.specs.IdTexts.{flag_text}
use Rattle.sgb_ops.specs.Compounds.{closing}
use Rattle.sgb_ops.specs.declared.induced_graphs.entries.Entry.{Entry}
use Rattle.sgb_ops.specs.declared.induced_graphs.entries.Entry.TheVariants as entry
use Rattle.sgb_ops.specs.Induced.{induced_of}
use Rattle.sgb_gen.specs.Boards.{board}
use Rattle.sgb_gen.specs.Shorthands.{line}
use Rattle.sgb_graph.specs.Made.{graph_described}
use Rattle.sgb_ops.specs.Boards.{pair_of_vertices}

-- the entry of n1 vertices in the middle of a wheel, or why they are refused: n1 is negative; then too great
abbrev pub accepted_middle : ℤ → Result Entry Panic
accepted_middle (negsuc n1) = Err Bad
accepted_middle (pos n1) = if nat_lt most_vertices n1 then Err VeryBad else Ok (entry.Copies n1)

-- the rim of a wheel, or why it is refused before memory is taken: for its middle, or else for the rim
abbrev pub accepted_rim : ℤ → ℤ → Bool → Result Description Panic
accepted_rim n n1 directed = and_then (accepted_middle n1) (λ middle. board (line n (pos 1) (pos 1) directed))

-- wheel(n, n1, directed): the board of two vertices, with n1 copies of the one, and board(n,0,0,0,1,1,directed) in the
-- place of the other, which is a circle of n vertices, and where n is not positive the board of 8 by 8; that board's
-- refusals come before those of the whole
abbrev pub wheel_of : ℤ → ℤ → Bool → Result Description Panic
wheel_of n n1 directed = and_then (accepted_middle n1) (λ middle.
    and_then (board (line n (pos 1) (pos 1) directed)) (λ rim.
    and_then (board (pair_of_vertices directed)) (λ pair.
    and_then (induced_of (graph_described pair) (middle ∷ entry.Graph (graph_described rim) ∷ []) false false directed) (λ d.
    Ok (record d { id = codes "wheel(" ++ signed_decimal n ++ closing (signed_decimal n1 ∷ flag_text directed ∷ []) })))))
