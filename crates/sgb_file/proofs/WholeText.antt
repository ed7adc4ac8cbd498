-- The text of a graph in three parts, and what stands in each.
use Rattle.sgb_vec.proofs.Common.{◌≡◌, ◌+◌, ◌*◌, ◌%◌, ◌^◌, ◌++◌, ◌∙◌, ℕ, List, [], ◌∷◌, length, map, codes, decimal, ap, append_assoc, append-nil, arith, flat_map-append}
use Rattle.sgb_graph.specs.Graphs.{GraphData}
use Rattle.sgb_graph.specs.Kinds.{letter_of}
use Rattle.sgb_file.specs.FileLines.{text_of_lines}
use Rattle.sgb_file.specs.Checksum.{checksum_of_lines, checksum_prime, weighted_sum}
use Rattle.sgb_file.specs.Saving.{middle_lines, text_of_graph}
use Rattle.sgb_file.specs.inner.SavedLines.{head_line, checksum_line}
use Rattle.sgb_file.specs.inner.Layouts.{checksum_after, checksum_from, checksum_text, counted_bytes, head_text, place_of}
use Rattle.sgb_file.proofs.ChecksumLemmas.{running_from}

-- the checksum byte by byte is the checksum
pub checksum-whole : (lines : List (List ℕ)) → checksum_from 0 (counted_bytes lines) ≡ checksum_of_lines lines
unfolding checksum_from checksum_after counted_bytes place_of
checksum-whole lines =
    let bytes = counted_bytes lines in
    let alone : 0 * 2 ^ length bytes + weighted_sum bytes ≡ weighted_sum bytes = omega arith in
    running_from checksum_prime (omega arith) bytes 0 (omega arith) ∙ ap (λ (x : ℕ). x % checksum_prime) alone

-- the text is the first line, the records, and the last line
pub text-parts : (g : GraphData) (n records sum : ℕ) → n ≡ length g.vertices → records ≡ length g.records → sum ≡ checksum_of_lines (middle_lines g)
    → text_of_graph g ≡ head_text (map letter_of g.kinds) n records ++ (text_of_lines (middle_lines g) ++ checksum_text sum)
text-parts g n records sum h k s =
    let front : List ℕ = codes "* GraphBase graph (util_types " ++ map letter_of g.kinds ++ codes "," ++ decimal (length g.vertices) ++ codes "V," ++ decimal (length g.records) in
    let first : head_line g ++ 10 ∷ [] ≡ head_text (map letter_of g.kinds) n records = grind (arith, append_assoc, codes) in
    let last : text_of_lines (middle_lines g ++ checksum_line g ∷ []) ≡ text_of_lines (middle_lines g) ++ checksum_text sum = grind (arith, flat_map-append, append-nil) in
    ap (λ text. text ++ text_of_lines (middle_lines g ++ checksum_line g ∷ [])) first ∙ ap (λ text. head_text (map letter_of g.kinds) n records ++ text) last

-- seven texts, one after another
pub seven_texts : (a b c d e f g : List ℕ) → a ++ (b ++ (c ++ (d ++ (e ++ (f ++ (g ++ [])))))) ≡ a ++ b ++ c ++ d ++ e ++ f ++ g
seven_texts a b c d e f g = simp (append_assoc, append-nil)
