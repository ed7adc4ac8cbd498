-- The lines of a graph's text, step by step [GB_SAVE, save_graph].
use Rattle.std.specs.Prelude.{ℕ, ◌+◌, Bool, List, [], ◌∷◌, ◌++◌, map, length, take, codes, decimal, nat_le, ◌==◌, if◌then◌else◌}
use Rattle.std.specs.List.{flat_map, range_with_len}
use Rattle.std.specs.Fmt.{signed_decimal}
use Rattle.sgb_graph.specs.Graphs.{GraphData}
use Rattle.sgb_graph.specs.declared.fields.Vertex.{Vertex}
use Rattle.sgb_graph.specs.declared.fields.ArcRec.{ArcRec}
use Rattle.sgb_graph.specs.Kinds.{letter_of}
use Rattle.sgb_file.specs.Checksum.{checksum_of_lines}
use Rattle.sgb_file.specs.Saving.{breaks_of, field_texts, middle_lines, most_file_line_bytes, part_from_break, quoted, record_number_text, ref_text}

-- the texts of the graph's record, of a vertex's and of an arc's
abbrev pub graph_texts : GraphData → List (List ℕ)
graph_texts g = quoted g.id ∷ decimal (length g.vertices) ∷ decimal g.m ∷ flat_map field_texts g.util

abbrev pub vertex_texts : Vertex → List (List ℕ)
vertex_texts v = quoted v.name ∷ record_number_text v.arcs ∷ flat_map field_texts v.util

abbrev pub arc_texts : ArcRec → List (List ℕ)
arc_texts r =
    ref_text r.tip ∷ record_number_text r.next ∷ signed_decimal r.len ∷ flat_map field_texts (r.a ∷ r.b ∷ [])

-- a broken line takes this many bytes of its piece
abbrev pub broken_line_bytes : ℕ
broken_line_bytes = 78

-- the broken lines of a piece: 78 bytes each, and a `\` (92)
abbrev pub broken_lines : List ℕ → List (List ℕ)
broken_lines piece =
    map (λ k. take broken_line_bytes (part_from_break piece k) ++ 92 ∷ []) (range_with_len 0 (breaks_of piece))

-- what is left of a piece after its broken lines
abbrev pub last_part : List ℕ → List ℕ
last_part piece = part_from_break piece (breaks_of piece)

-- the piece fits on a line that begins with these bytes
abbrev pub fits_on : List ℕ → List ℕ → Bool
fits_on line piece = nat_le (length line + length piece) most_file_line_bytes

-- the lines that end where a piece is laid out after a line's beginning, before the piece or within it
abbrev pub lines_ended : List ℕ → List ℕ → List (List ℕ)
lines_ended line piece =
    if fits_on line piece then []
    else ((if length line == 0 then [] else line ∷ []) ++ broken_lines piece)

-- the beginning of a line that then stands
abbrev pub line_begun : List ℕ → List ℕ → List ℕ
line_begun line piece = if fits_on line piece then line ++ piece else last_part piece

-- the first line
abbrev pub head_line : GraphData → List ℕ
head_line g =
    codes "* GraphBase graph (util_types " ++ map letter_of g.kinds
    ++ codes "," ++ decimal (length g.vertices) ++ codes "V," ++ decimal (length g.records) ++ codes "A)"

-- the last line
abbrev pub checksum_line : GraphData → List ℕ
checksum_line g = codes "* Checksum " ++ decimal (checksum_of_lines (middle_lines g))
