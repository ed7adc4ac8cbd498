-- Texts that are files of a graph.
use Rattle.std.specs.Prelude.{◌≡◌, ◌^◌, pos, neg_ℤ, [], ◌∷◌, ◌++◌, codes, map, replicate, take, Some, None, Ok, refl}
use Rattle.sgb_text.proofs.Findings.{all_at}
use Rattle.sgb_graph.specs.Graphs.{ends_from, numbers_from}
use Rattle.sgb_graph.specs.declared.fields.Ref.TheVariants.{Null, One}
use Rattle.sgb_graph.specs.declared.fields.Util.TheVariants.{Nothing, Vertex as VertexField, Str, Chain}
use Rattle.sgb_graph.specs.declared.fields.Kind.TheVariants.{Z, V, S, A}
use Rattle.sgb_file.specs.FileLines.{lines_among, without_end_spaces, clean_lines, text_of_lines}
use Rattle.sgb_file.specs.inner.LinesLeft.{lines_of_text}
use Rattle.sgb_file.specs.Checksum.{weighted_sum}
use Rattle.sgb_file.specs.Fields.{unbroken}
use Rattle.sgb_file.specs.inner.ReadRecords.{more_fields_at}
use Rattle.sgb_file.specs.inner.ReadFiles.{opening_of, graph_of_text}
pub use Rattle.sgb_file.proofs.Examples.WholeFiles.{no_file_read}
pub use Rattle.sgb_file.proofs.Examples.CellFile.{one_cell_read}
use Rattle.sgb_file.proofs.Examples.GraphFiles.{plain_vertex, plain_arc, one_cell, one_cell_lines, two_joined, two_joined_lines, nothing, nothing_lines, ring, ring_text, file_text}

-- lines end at newlines; what is after the last one is a line where it is not empty
pub some_lines : map lines_of_text (codes "a\n\nb" ∷ [] ∷ codes "\n" ∷ []) ≡ (codes "a" ∷ [] ∷ codes "b" ∷ []) ∷ [] ∷ ([] ∷ []) ∷ []
unfolding lines_among
some_lines = refl

-- spaces at the ends of lines are taken off, and no others
pub some_clean_lines : clean_lines (codes " a b  \n  \nc ") ≡ codes " a b" ∷ [] ∷ codes "c" ∷ []
unfolding lines_among without_end_spaces
some_clean_lines = refl

-- the two written files are read as their graphs; the last newline may be left out
pub of_written : map graph_of_text (text_of_lines one_cell_lines ∷ text_of_lines two_joined_lines ∷ take 159 (text_of_lines two_joined_lines) ∷ []) ≡ Ok one_cell ∷ Ok two_joined ∷ Ok two_joined ∷ []
unfolding lines_among without_end_spaces weighted_sum unbroken more_fields_at all_at opening_of ends_from numbers_from
of_written = refl

-- the graph of no vertices; with a first line that begins with `*`, and without the last newline; anything may follow the
-- number, and other lines the last one
pub of_nothing : map graph_of_text (
    text_of_lines (nothing_lines ++ codes "* Checksum 18619" ∷ [])
    ∷ (text_of_lines (codes "* made by hand" ∷ nothing_lines) ++ codes "* Checksum 18619")
    ∷ text_of_lines (nothing_lines ++ codes "* Checksum 18619x" ∷ codes "\"" ∷ []) ∷ []) ≡ replicate 3 (Ok nothing)
unfolding lines_among without_end_spaces weighted_sum unbroken more_fields_at all_at opening_of ends_from numbers_from
of_nothing = refl

-- a graph whose one arc is a loop, and the least length; two vertices that share a record, and a number of arcs that is not that
-- of the records
pub of_loops : map graph_of_text (
    ring_text (codes "V0,0,1")
    ∷ ring_text (codes "V0,0,-9223372036854775808")
    ∷ file_text (codes "2V,1A") (codes "\"s\",2,2") (codes "\"x\",A0" ∷ codes "\"y\",A0" ∷ []) (codes "V0,0,1" ∷ []) (codes "-1") ∷ []) ≡
    Ok (ring (plain_arc 0 None))
    ∷ Ok (ring (record (plain_arc 0 None) { len = neg_ℤ (pos (2 ^ 63)) }))
    ∷ Ok (record (ring (plain_arc 0 None)) { id = codes "s"; m = 2; vertices = plain_vertex (codes "x") (Some 0) ∷ plain_vertex (codes "y") (Some 0) ∷ [] }) ∷ []
unfolding lines_among without_end_spaces weighted_sum unbroken more_fields_at all_at opening_of ends_from numbers_from
of_loops = refl

-- a record on no list, with a tip that is no vertex; leading zeros; a record that goes on after a comma at a line's end;
-- spaces at a line's end; a broken string, whose second line begins with `*`; an empty name
pub of_other_forms : graph_of_text (text_of_lines (
    codes "* GraphBase graph (util_types VZZZZZZSZZZZZA,01V,1A), by hand"
    ∷ codes "\"an \\  "
    ∷ codes "*id\",  "
    ∷ codes "001,7,"
    ∷ codes "A00"
    ∷ codes "* Vertices"
    ∷ codes "\"\",0,1"
    ∷ codes "* Arcs  "
    ∷ codes "0,0,-0,\",\""
    ∷ codes "* Checksum -5" ∷ [])) ≡
    Ok (record {
      id = codes "an *id";
      m = 7;
      kinds = V ∷ Z ∷ Z ∷ Z ∷ Z ∷ Z ∷ Z ∷ S ∷ Z ∷ Z ∷ Z ∷ Z ∷ Z ∷ A ∷ [];
      util = Nothing ∷ Nothing ∷ Nothing ∷ Nothing ∷ Nothing ∷ Chain (Some 0) ∷ [];
      vertices = record { name = []; arcs = None; util = VertexField One ∷ Nothing ∷ Nothing ∷ Nothing ∷ Nothing ∷ Nothing ∷ [] } ∷ [];
      records = record { tip = Null; next = None; len = pos 0; a = Nothing; b = Str (codes ",") } ∷ [];
    })
unfolding lines_among without_end_spaces weighted_sum unbroken more_fields_at all_at opening_of ends_from numbers_from
of_other_forms = refl
