-- The graph that a text is a file of, or the code of a text that is a file of none, as it is read [GB_SAVE, restore_graph].
use Rattle.std.specs.Prelude.{ℕ, ◌-◌, ℤ, pos, neg_ℤ, Bool, true, false, List, [], ◌∷◌, length, take, drop, codes, Option, Some, None, Result, Ok, Err, option_map, filter_map, take_while, slice_index, ◌==◌, nat_le, if◌then◌else◌}
use Rattle.std.specs.Option.{option_map_or}
use Rattle.sgb_text.specs.Checksums.{agrees}
use Rattle.sgb_text.proofs.Findings.{Found, after_prefix, given}
use Rattle.sgb_vec.specs.Limits.{most_vertices}
use Rattle.sgb_vec.specs.declared.panics.Panic.{Panic}
use Rattle.sgb_vec.specs.declared.panics.Panic.TheVariants.{Early, Late, Syntax}
use Rattle.sgb_graph.specs.Graphs.{GraphData}
use Rattle.sgb_graph.specs.Sound.{is_sound}
use Rattle.sgb_graph.specs.declared.fields.Kind.{Kind}
use Rattle.sgb_graph.specs.declared.fields.Kind.TheVariants.{Z, I, V, S, A}
use Rattle.sgb_graph.specs.Kinds.{letter_of}
use Rattle.sgb_file.specs.FileLines.{clean_lines, text_of_lines}
use Rattle.sgb_file.specs.inner.LinesLeft.{lines_of_text}
use Rattle.sgb_file.specs.Checksum.{has_star, checksum_of_lines}
use Rattle.sgb_file.specs.Fields.{most_number_digits}
use Rattle.sgb_file.specs.inner.FieldValues.{is_decimal_digit, number_of}
use Rattle.sgb_file.specs.inner.Heads.{Head}
use Rattle.sgb_file.specs.inner.ReadRecords.{records_at}

-- the kind whose letter it is
abbrev pub kind_of_letter : ℕ → Option Kind
kind_of_letter letter =
    if letter == letter_of Z then Some Z
    else (if letter == letter_of I then Some I
    else (if letter == letter_of V then Some V
    else (if letter == letter_of S then Some S
    else (if letter == letter_of A then Some A else None))))

-- the kinds of the fourteen letters that a text begins with
abbrev pub kinds_at : List ℕ → Option (Found (List Kind))
kinds_at text =
    let kinds = filter_map kind_of_letter (take 14 text) in
    if length kinds == 14 then Some (record { value = kinds; rest = drop 14 text }) else None

-- the number that all the digits write which a text begins with
abbrev pub leading_number : List ℕ → Option (Found ℕ)
leading_number text =
    let digits = take_while is_decimal_digit text in
    option_map (λ k. record { value = k; rest = drop (length digits) text }) (number_of most_number_digits digits)

-- what a line says that has the form of a first line: `* GraphBase graph (util_types T,NV,MA)`, then anything
abbrev pub head_of_line : List ℕ → Option Head
head_of_line line =
    given (after_prefix (codes "* GraphBase graph (util_types ") line) (λ letters.
    given (kinds_at letters) (λ kinds.
    given (after_prefix (codes ",") kinds.rest) (λ second.
    given (leading_number second) (λ n.
    given (after_prefix (codes "V,") n.rest) (λ third.
    given (leading_number third) (λ m.
    given (after_prefix (codes "A)") m.rest) (λ anything.
    if nat_le n.value most_vertices
    then Some (record { kinds = kinds.value; counts = record { vertices = n.value; arcs = m.value } })
    else None)))))))

-- a file's first line, and the lines after it
pub record Opening : Type 0 where
  pub head : Head
  pub lines : List (List ℕ)

-- the opening of a file's lines: lines that begin with `*` but have not the form of a first line, then one
-- that has it
unfoldable pub opening_of : List (List ℕ) → Option Opening
opening_of [] = None
opening_of (line ∷ lines) =
    option_map_or (λ head. Some (record { head = head; lines = lines })) (head_of_line line)
    (if has_star line then opening_of lines else None)

-- what the records after the first line say
abbrev pub graph_of_records : Opening → Option (Found GraphData)
graph_of_records opening = records_at opening.head (text_of_lines opening.lines)

-- the number c of a line `* Checksum c`, followed by anything
abbrev pub checksum_in_line : List ℕ → Option ℤ
checksum_in_line line =
    given (after_prefix (codes "* Checksum ") line) (λ text.
    if slice_index text 0 == 45
    then option_map (λ c. neg_ℤ (pos c.value)) (leading_number (drop 1 text))
    else option_map (λ c. pos c.value) (leading_number text))

-- the lines of a file's records: those between the first line and the lines that follow the records
abbrev pub lines_before : Opening → List (List ℕ) → List (List ℕ)
lines_before opening following = take (length opening.lines - length following) opening.lines

-- the first of the lines after the records is a checksum line that agrees; any lines may follow it
abbrev pub line_closes : List (List ℕ) → List (List ℕ) → Bool
line_closes before [] = false
line_closes before (line ∷ anything) = option_map_or (λ c. agrees c (checksum_of_lines before)) (checksum_in_line line) false

-- the text after the records closes the file
abbrev pub closes : Opening → List ℕ → Bool
closes opening rest = line_closes (lines_before opening (lines_of_text rest)) (lines_of_text rest)

-- the graph where the file ends well and the lists are lists
abbrev pub graph_at_end : Bool → Bool → GraphData → Result GraphData Panic
graph_at_end false sound g = Err Late
graph_at_end true false g = Err Syntax
graph_at_end true true g = Ok g

-- the graph of what follows an opening
abbrev pub graph_after : Opening → Option (Found GraphData) → Result GraphData Panic
graph_after opening None = Err Syntax
graph_after opening (Some found) = graph_at_end (closes opening found.rest) (is_sound found.value) found.value

-- the graph of lines with this opening
abbrev pub graph_of_opening : Option Opening → Result GraphData Panic
graph_of_opening None = Err Early
graph_of_opening (Some opening) = graph_after opening (graph_of_records opening)

-- the graph that a text is a file of; of a text that is a file of none, 10 where it has no opening, else 20
-- where no records follow, else 11 where no closing line follows, else 20
abbrev pub graph_of_text : List ℕ → Result GraphData Panic
graph_of_text text = graph_of_opening (opening_of (clean_lines text))
