-- Texts that are files of no graph, with the code of each.
use Rattle.std.specs.Prelude.{◌≡◌, [], ◌∷◌, ◌++◌, codes, map, replicate, take, Err, refl}
use Rattle.sgb_text.proofs.Findings.{all_at}
use Rattle.sgb_vec.specs.declared.panics.Panic.TheVariants.{Early, Late, Syntax}
use Rattle.sgb_graph.specs.Graphs.{ends_from, numbers_from}
use Rattle.sgb_file.specs.FileLines.{lines_among, without_end_spaces, text_of_lines}
use Rattle.sgb_file.specs.Checksum.{weighted_sum}
use Rattle.sgb_file.specs.Fields.{unbroken}
use Rattle.sgb_file.specs.inner.ReadRecords.{more_fields_at}
use Rattle.sgb_file.specs.inner.ReadFiles.{opening_of, graph_of_text}
use Rattle.sgb_file.proofs.Examples.GraphFiles.{two_joined_lines, nothing_lines, ring_text, file_text}

-- nothing at all has no first line; more vertices than a graph can have, a letter that is no kind, and a line that does not
-- begin with `*` are none
pub no_first_lines : map graph_of_text (
    []
    ∷ codes "* GraphBase graph (util_types ZZZZZZZZZZZZZZ,1000000001V,0A)\n"
    ∷ codes "* GraphBase graph (util_types ZZZZZZZZGZZZZZ,0V,0A)\n"
    ∷ text_of_lines (codes "made by hand" ∷ nothing_lines) ∷ []) ≡ replicate 4 (Err Early)
unfolding lines_among without_end_spaces opening_of
no_first_lines = refl

-- another checksum, and no checksum; `-0` is not negative, and nineteen digits are no number; a line before that of the
-- checksum
pub no_closings : map (λ closing. graph_of_text (text_of_lines (nothing_lines ++ closing))) (
    (codes "* Checksum 18618" ∷ [])
    ∷ []
    ∷ (codes "* Checksum -0" ∷ [])
    ∷ (codes "* Checksum 0000000000000018619" ∷ [])
    ∷ ([] ∷ codes "* Checksum 18619" ∷ []) ∷ []) ≡ replicate 5 (Err Late)
unfolding lines_among without_end_spaces weighted_sum unbroken more_fields_at all_at opening_of ends_from numbers_from
no_closings = refl

-- a field too many and a wrong checksum: the record's code; a ring and a wrong checksum: the checksum's code; a ring of two
-- records that is on no list; a first line that promises a thousand million vertices, of which none follows
pub record_or_checksum : map graph_of_text (
    file_text (codes "0V,0A") (codes "\"a\",0,0,0") [] [] (codes "0")
    ∷ file_text (codes "1V,1A") (codes "\"ring\",1,1") (codes "\"x\",A0" ∷ []) (codes "V0,A0,1" ∷ []) (codes "0")
    ∷ file_text (codes "1V,2A") (codes "\"ring\",1,1") (codes "\"x\",0" ∷ []) (codes "V0,A1,1" ∷ codes "V0,A0,1" ∷ []) (codes "-1")
    ∷ text_of_lines (
    codes "* GraphBase graph (util_types ZZZZZZZZZZZZZZ,999999999V,0A)"
    ∷ codes "\"a\",999999999,0"
    ∷ codes "* Vertices" ∷ []) ∷ []) ≡ Err Syntax ∷ Err Late ∷ Err Syntax ∷ Err Syntax ∷ []
unfolding lines_among without_end_spaces weighted_sum unbroken more_fields_at all_at opening_of ends_from numbers_from
record_or_checksum = refl

-- a record whose line ends in a tab (9), which is no space; a ring of one record; a tip that is no vertex of the graph; an arc
-- on a list without a tip vertex; a length of more than 64 bits; and a next record that is not there
pub no_records : map (λ arc. graph_of_text (ring_text arc)) (
    (codes "V0,0,1" ++ 9 ∷ [])
    ∷ codes "V0,A0,1"
    ∷ codes "V1,0,1"
    ∷ codes "0,0,1"
    ∷ codes "V0,0,9223372036854775808"
    ∷ codes "V0,A1,1" ∷ []) ≡ replicate 6 (Err Syntax)
unfolding lines_among without_end_spaces weighted_sum unbroken more_fields_at all_at opening_of ends_from numbers_from
no_records = refl

-- the file of complete(2) cut short: 50 bytes have no first line; from 51 on no records follow; from 137 on
-- no checksum follows; with 158 it is another one
pub cut_short : map (λ k. graph_of_text (take k (text_of_lines two_joined_lines))) (50 ∷ 51 ∷ 136 ∷ 137 ∷ 158 ∷ []) ≡ Err Early ∷ Err Syntax ∷ Err Syntax ∷ Err Late ∷ Err Late ∷ []
unfolding lines_among without_end_spaces weighted_sum unbroken more_fields_at all_at opening_of ends_from numbers_from
cut_short = refl
