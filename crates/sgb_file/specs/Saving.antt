-- The one text that is written for a graph [GB_SAVE, save_graph].
use Rattle.std.specs.Prelude.{ℕ, ◌+◌, ◌-◌, ◌*◌, ◌/◌, List, [], ◌∷◌, ◌++◌, map, length, take, drop, codes, decimal, Option, Some, None, nat_le, ◌==◌, if◌then◌else◌}
use Rattle.std.specs.List.{flat_map, range_with_len}
use Rattle.std.specs.Fmt.{signed_decimal}
use Rattle.sgb_graph.specs.Graphs.{GraphData}
use Rattle.sgb_graph.specs.Kinds.{letter_of}
use Rattle.sgb_graph.specs.declared.fields.Ref.{Ref}
use Rattle.sgb_graph.specs.declared.fields.Ref.TheVariants.{Null, One, At}
use Rattle.sgb_graph.specs.declared.fields.Util.{Util}
use Rattle.sgb_graph.specs.declared.fields.Util.TheVariants.{Nothing, Int, Vertex as VertexField, Str, Chain}
use Rattle.sgb_file.specs.FileLines.{text_of_lines}
use Rattle.sgb_file.specs.Checksum.{checksum_of_lines}

-- a line has at most this many bytes
abbrev pub most_file_line_bytes : ℕ
most_file_line_bytes = 79

-- the text of a string: the bytes between quotes (34)
abbrev pub quoted : List ℕ → List ℕ
quoted bytes = 34 ∷ (bytes ++ 34 ∷ [])

-- the text of a field that leads to a vertex, V and its number; or to none, 0 or 1
abbrev pub ref_text : Ref → List ℕ
ref_text Null = codes "0"
ref_text One = codes "1"
ref_text (At v) = codes "V" ++ decimal v

-- the text of an arc record's number: A and it, or 0 where there is none
abbrev pub record_number_text : Option ℕ → List ℕ
record_number_text None = codes "0"
record_number_text (Some k) = codes "A" ++ decimal k

-- the text of a field; a field that is not used has none
abbrev pub field_texts : Util → List (List ℕ)
field_texts Nothing = []
field_texts (Int i) = signed_decimal i ∷ []
field_texts (VertexField r) = ref_text r ∷ []
field_texts (Str s) = quoted s ∷ []
field_texts (Chain first) = record_number_text first ∷ []

-- the pieces of a record: each field's text with its comma, the last one's without
unfoldable pub pieces_of : List (List ℕ) → List (List ℕ)
pieces_of [] = []
pieces_of (last ∷ []) = last ∷ []
pieces_of (text ∷ next ∷ texts) = (text ++ codes ",") ∷ pieces_of (next ∷ texts)

-- how often a piece is broken: the bytes past the first 79 in parts of 78, rounded up
abbrev pub breaks_of : List ℕ → ℕ
breaks_of piece = (length piece - most_file_line_bytes + 77) / 78

-- the part of a piece from its k-th break on
abbrev pub part_from_break : List ℕ → ℕ → List ℕ
part_from_break piece k = drop (78 * k) piece

-- the lines of pieces that are laid out after a line's beginning. A piece that fits on the line stays on it. Before another one
-- that line ends, if it has begun; each break of the piece ends a line of 78 bytes and a `\` (92), and what is left begins the next
unfoldable pub laid_out : List ℕ → List (List ℕ) → List (List ℕ)
laid_out line [] = line ∷ []
laid_out line (piece ∷ pieces) =
    let fits = nat_le (length line + length piece) most_file_line_bytes in
    let before = if length line == 0 then [] else line ∷ [] in
    let broken = map (λ k. take 78 (part_from_break piece k) ++ 92 ∷ []) (range_with_len 0 (breaks_of piece)) in
    let begun = if fits then line ++ piece else part_from_break piece (breaks_of piece) in
    (if fits then [] else (before ++ broken)) ++ laid_out begun pieces

-- the lines of a record with these fields
abbrev pub record_lines : List (List ℕ) → List (List ℕ)
record_lines texts = laid_out [] (pieces_of texts)

-- the lines between the first and the last: the records of the graph, of its vertices and of its arcs
abbrev pub middle_lines : GraphData → List (List ℕ)
middle_lines g = record_lines (quoted g.id ∷ decimal (length g.vertices) ∷ decimal g.m ∷ flat_map field_texts g.util)
    ++ codes "* Vertices" ∷ flat_map (λ v. record_lines (quoted v.name ∷ record_number_text v.arcs ∷ flat_map field_texts v.util)) g.vertices
    ++ codes "* Arcs" ∷ flat_map (λ r. record_lines (ref_text r.tip ∷ record_number_text r.next ∷ signed_decimal r.len
    ∷ flat_map field_texts (r.a ∷ r.b ∷ []))) g.records

-- the text of a graph: a line with its kinds and numbers, those of its records, and a line with their checksum
abbrev pub text_of_graph : GraphData → List ℕ
text_of_graph g =
    let first = codes "* GraphBase graph (util_types " ++ map letter_of g.kinds
    ++ codes "," ++ decimal (length g.vertices) ++ codes "V," ++ decimal (length g.records) ++ codes "A)" in
    let last = codes "* Checksum " ++ decimal (checksum_of_lines (middle_lines g)) in
    text_of_lines (first ∷ (middle_lines g ++ last ∷ []))
