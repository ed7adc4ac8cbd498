-- The file of board(1,0,0,0,1,0,0), part by part.
use Rattle.std.proofs.Common.{◌++◌, ℕ, zero, suc, List, [], ◌∷◌, codes, refl, arith, inl, pos, None, Ok}
use Rattle.std.specs.Prelude.{replicate}
use Rattle.std.proofs.lemmas.List.Elements.{All-nil}
use Rattle.sgb_graph.specs.Graphs.{ends_from, numbers_from}
use Rattle.sgb_graph.specs.Made.{no_fields}
use Rattle.sgb_graph.specs.declared.fields.Kind.TheVariants.{I}
use Rattle.sgb_graph.specs.declared.fields.Util.TheVariants.{Nothing, Int, Str, Chain}
use Rattle.sgb_file.specs.FileLines.{lines_among, without_end_spaces, text_of_lines}
use Rattle.sgb_file.specs.Checksum.{weighted_sum}
use Rattle.sgb_file.specs.Fields.{unbroken}
use Rattle.sgb_file.specs.Files.{AreMoreFields, IsVertexRecord, IsGraphRecord, AreRecordsOf, IsComment, Opens, IsClosed}
use Rattle.sgb_file.specs.Refused.{IsRestoredAs}
use Rattle.sgb_file.proofs.NumberReading.{all_digits}
use Rattle.sgb_file.proofs.Examples.Words.{string}
use Rattle.sgb_file.proofs.Examples.GraphFiles.{board_vertex, one_cell, one_cell_lines}
use Rattle.sgb_file.proofs.Examples.ArcRecords.{comma, zero_text, one_text, zero_integer, unused}

abbrev zeros : ℕ → List ℕ
zeros zero = codes "\n"
zeros (suc k) = codes ",0" ++ zeros k

-- integers that are 0
all_zero : (n m k : ℕ) → AreMoreFields n m (replicate k I) (zeros k) (replicate k (Int (pos 0)))
all_zero n m zero = (refl, refl)
all_zero n m (suc k) = (codes ",", codes "0" ++ zeros k, tt, refl, comma, (codes "0", zeros k, Int (pos 0), refl, (pos 0, zero_integer, refl), (replicate k (Int (pos 0)), all_zero n m k, refl)))

cell_record : IsGraphRecord one_cell (codes "\"board(1,0,0,0,1,0,0)\",1,0\n")
unfolding unbroken
cell_record = (
  codes "\"board(1,0,0,0,1,0,0)\"",
  codes ",1,0\n",
  codes "board(1,0,0,0,1,0,0)",
  refl,
  string 160 (codes "board(1,0,0,0,1,0,0)") (omega arith) refl refl,
  (
    codes ",",
    codes "1,0\n",
    tt,
    refl,
    comma,
    (
      codes "1",
      codes ",0\n",
      1,
      refl,
      one_text,
      (codes ",", codes "0\n", tt, refl, comma, (codes "0", codes "\n", 0, refl, zero_text, (no_fields, unused 1 0 6, refl))),
    ),
  ),
)

cell_vertex : IsVertexRecord one_cell (codes "\"0\",0,0,0,0\n") (board_vertex (codes "0") None 0)
unfolding unbroken
cell_vertex = let ints = replicate 3 (Int (pos 0)) in (
  codes "\"0\"",
  codes ",0,0,0,0\n",
  Str (codes "0"),
  refl,
  (codes "0", string 4095 (codes "0") (omega arith) refl refl, refl),
  (
    Chain None ∷ Nothing ∷ Nothing ∷ Nothing ∷ ints,
    (
      codes ",",
      codes "0,0,0,0\n",
      tt,
      refl,
      comma,
      (
        codes "0",
        codes ",0,0,0\n",
        Chain None,
        refl,
        (None, inl (refl, refl), refl),
        (Nothing ∷ Nothing ∷ Nothing ∷ ints, (Nothing ∷ Nothing ∷ ints, (Nothing ∷ ints, (ints, all_zero 1 0 3, refl), refl), refl), refl),
      ),
    ),
    refl,
  ),
)

abbrev cell_lines : List (List ℕ)
cell_lines = codes "\"board(1,0,0,0,1,0,0)\",1,0" ∷ codes "* Vertices" ∷ codes "\"0\",0,0,0,0" ∷ codes "* Arcs" ∷ []

cell_records : AreRecordsOf one_cell (text_of_lines cell_lines)
cell_records = record {
  own = codes "\"board(1,0,0,0,1,0,0)\",1,0\n";
  vertices = codes "\"0\",0,0,0,0\n";
  arcs = [];
  graph_record = cell_record;
  vertex_records = (codes "\"0\",0,0,0,0\n", [], refl, cell_vertex, refl);
  arc_records = refl;
  parts = refl;
}

-- with no comment, and with its checksum
pub one_cell_read : IsRestoredAs (text_of_lines one_cell_lines) (Ok one_cell)
unfolding lines_among without_end_spaces weighted_sum ends_from numbers_from
one_cell_read = (cell_lines, codes "* Checksum 386652336" ∷ [], (opening, cell_records), closed, refl)
  where
    opening : Opens (text_of_lines one_cell_lines) one_cell.kinds 1 0 (cell_lines ++ codes "* Checksum 386652336" ∷ [])
    opening = record {
      comments = [];
      first = codes "* GraphBase graph (util_types ZZZIIIZZZZZZZZ,1V,0A)";
      parts = refl;
      comments_are = All-nil IsComment;
      first_says = (codes "1", codes "0", [], one_text, zero_text, refl, omega arith, refl);
    }

    closed : IsClosed cell_lines (codes "* Checksum 386652336" ∷ [])
    closed = (codes "* Checksum 386652336", [], refl, (codes "386652336", [], 386652336, record { numeral = (omega arith, all_digits (codes "386652336") refl); short = omega arith; writes = refl }, refl, inl (refl, refl)))
