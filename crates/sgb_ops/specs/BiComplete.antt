-- Complete bipartite graphs [GB_BASIC, bi_complete].
use Rattle.std.specs.Prelude.{ℤ, pos, negsuc, ◌+◌, Bool, false, List, [], ◌∷◌, ◌++◌, replicate, codes, nat_lt, if◌then◌else◌, Result, Ok, Err}
use Rattle.std.specs.Fmt.{signed_decimal}
use Rattle.sgb_vec.specs.Limits.{most_vertices}
use Rattle.sgb_vec.specs.Results.{and_then}
use Rattle.sgb_vec.specs.declared.panics.Panic.{Panic}
use Rattle.sgb_vec.specs.declared.panics.Panic.TheVariants.{Bad, VeryBad}
use Rattle.sgb_graph.specs.declared.fields.Kind.TheVariants.{Z, I}
use Rattle.sgb_graph.specs.declared.fields.Util.TheVariants.{Nothing, Int}
use Rattle.sgb_graph.specs.Descriptions.{Description}
use Rattle.sgb_graph.specs.IdTexts.{flag_text}
use Rattle.sgb_ops.specs.Compounds.{closing}
use Rattle.sgb_ops.specs.declared.induced_graphs.entries.Entry.{Entry}
use Rattle.sgb_ops.specs.declared.induced_graphs.entries.Entry.TheVariants as entry
use Rattle.sgb_ops.specs.Induced.{induced_of}
use Rattle.sgb_gen.specs.Boards.{board}
use Rattle.sgb_graph.specs.Made.{graph_described}
use Rattle.sgb_ops.specs.Boards.{pair_of_vertices}

-- the entries of these numbers of copies, or why they are refused: one is negative; then they are too many vertices
abbrev pub accepted_parts : ℤ → ℤ → Result (List Entry) Panic
accepted_parts (pos n1) (pos n2) = if nat_lt most_vertices (n1 + n2) then Err VeryBad else Ok (entry.Copies n1 ∷ entry.Copies n2 ∷ [])
accepted_parts _ _ = Err Bad

-- bi_complete(n1, n2, directed): the board of two vertices, with n1 copies of the one and n2 of the other, and n1 in the
-- field uu, whose kind is the ninth of fourteen
abbrev pub bi_complete_of : ℤ → ℤ → Bool → Result Description Panic
bi_complete_of n1 n2 directed = and_then (accepted_parts n1 n2) (λ entries.
    and_then (board (pair_of_vertices directed)) (λ pair.
    and_then (induced_of (graph_described pair) entries false false directed) (λ d.
    Ok (record d {
      kinds = replicate 8 Z ++ I ∷ replicate 5 Z;
      util = Int n1 ∷ replicate 5 Nothing;
      id = codes "bi_complete(" ++ signed_decimal n1 ++ closing (signed_decimal n2 ∷ flag_text directed ∷ []);
    }))))
