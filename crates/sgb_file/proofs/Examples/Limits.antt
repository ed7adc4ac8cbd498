-- Texts at the limits of a file: what fits, and what no longer fits, with its code.
use Rattle.std.specs.Prelude.{◌≡◌, ℕ, List, [], ◌∷◌, ◌++◌, codes, map, replicate, None, Ok, Err, refl}
use Rattle.sgb_text.proofs.Findings.{all_at}
use Rattle.sgb_vec.specs.declared.panics.Panic.TheVariants.{Early, Syntax}
use Rattle.sgb_graph.specs.Graphs.{ends_from, numbers_from}
use Rattle.sgb_file.specs.FileLines.{lines_among, without_end_spaces}
use Rattle.sgb_file.specs.Checksum.{weighted_sum}
use Rattle.sgb_file.specs.Fields.{unbroken}
use Rattle.sgb_file.specs.inner.ReadRecords.{more_fields_at}
use Rattle.sgb_file.specs.inner.ReadFiles.{opening_of, graph_of_text}
use Rattle.sgb_file.specs.Saving.{quoted}
use Rattle.sgb_file.proofs.Examples.GraphFiles.{nothing, plain_vertex, file_text}

-- the file of a graph of no vertices with this record, and an unchecked end
abbrev with_record : List ℕ → List ℕ
with_record own = file_text (codes "0V,0A") own [] [] (codes "-1")

-- an id of 160 bytes; a number of arcs of 18 digits, and one of vertices; the first and the last byte of a string
pub within_limits : map (λ own. graph_of_text (with_record own)) (
    (quoted (replicate 160 97) ++ codes ",0,0")
    ∷ codes "\"a\",0,999999999999999999"
    ∷ codes "\"a\",000000000000000000,0"
    ∷ (quoted (32 ∷ 126 ∷ []) ++ codes ",0,0") ∷ []) ≡
    Ok (record nothing { id = replicate 160 97 })
    ∷ Ok (record nothing { m = 999999999999999999 })
    ∷ Ok nothing
    ∷ Ok (record nothing { id = 32 ∷ 126 ∷ [] }) ∷ []
unfolding lines_among without_end_spaces weighted_sum unbroken more_fields_at all_at opening_of ends_from numbers_from
within_limits = refl

-- an id of 161 bytes; a number of arcs of 19 digits, and one of vertices; a number of vertices that is not the first line's;
-- more in a record than its fields, or less; the line ends after a comma, once and not before it; the bytes next to the last
-- and the first of a string
pub past_limits : map (λ own. graph_of_text (with_record own)) (
    (quoted (replicate 161 97) ++ codes ",0,0")
    ∷ codes "\"a\",0,0000000000000000000"
    ∷ codes "\"a\",0000000000000000000,0"
    ∷ codes "\"a\",1,0"
    ∷ codes "\"a\",0,0,0"
    ∷ codes "\"a\",0"
    ∷ codes "\"a\",\n\n0,0"
    ∷ codes "\"a\"\n,0,0"
    ∷ (quoted (127 ∷ []) ++ codes ",0,0")
    ∷ (quoted (31 ∷ []) ++ codes ",0,0") ∷ []) ≡ replicate 10 (Err Syntax)
unfolding lines_among without_end_spaces weighted_sum unbroken more_fields_at all_at opening_of ends_from numbers_from
past_limits = refl

-- a file of one vertex with this name, no arcs, and an unchecked end
abbrev with_name : List ℕ → List ℕ
with_name name = file_text (codes "1V,0A") (codes "\"a\",1,0") ((quoted name ++ codes ",0") ∷ []) [] (codes "-1")

-- a name of 4,095 bytes, and of 4,096
pub long_names : map (λ n. graph_of_text (with_name (replicate n 97))) (4095 ∷ 4096 ∷ []) ≡ Ok (record nothing { vertices = plain_vertex (replicate 4095 97) None ∷ [] }) ∷ Err Syntax ∷ []
unfolding lines_among without_end_spaces weighted_sum unbroken more_fields_at all_at opening_of ends_from numbers_from
long_names = refl

-- a line before the first one that does not begin with `*`
pub not_a_comment : graph_of_text (codes "made by hand\n" ++ with_record (codes "\"a\",0,0")) ≡ Err Early
unfolding lines_among without_end_spaces opening_of
not_a_comment = refl
