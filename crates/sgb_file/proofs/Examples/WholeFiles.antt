-- A whole file, from a comment before its first line to the line with its checksum, and texts that lack a part of it.
use Rattle.std.proofs.Common.{◌≡◌, ◌++◌, ℕ, suc, List, [], ◌∷◌, length, codes, ap, sym, ◌∙◌, refl, arith, inl, inr, Some, None, Ok, Err}
use Rattle.std.specs.Prelude.{slice_index, replicate, All}
use Rattle.std.specs.List.{slice_index_or}
use Rattle.std.proofs.lemmas.Bool.{eqb-true}
use Rattle.std.proofs.lemmas.List.Elements.{All-nil, All-cons, All-head}
use Rattle.sgb_vec.specs.declared.panics.Panic.TheVariants.{Early, Late, Syntax}
use Rattle.sgb_graph.specs.Graphs.{ends_from, numbers_from}
use Rattle.sgb_graph.specs.declared.fields.Kind.{Kind}
use Rattle.sgb_graph.specs.declared.fields.Kind.TheVariants.{Z}
use Rattle.sgb_file.specs.FileLines.{lines_among, without_end_spaces, clean_lines, text_of_lines}
use Rattle.sgb_file.specs.Files.{IsFirstLine, IsComment, Opens, HasRecords, IsClosed}
use Rattle.sgb_file.specs.Refused.{HasNoOpening, IsRestoredAs}
use Rattle.sgb_file.proofs.NumberReading.{all_digits}
use Rattle.sgb_file.proofs.Examples.ArcRecords.{zero_text, one_text, one_arc, records_are, arc_text}

abbrev comment : List ℕ
comment = codes "* by hand"

abbrev first : List ℕ
first = codes "* GraphBase graph (util_types ZZZZZZVIVZZZZZ,2V,1A)!"

abbrev lines : List ℕ → List (List ℕ)
lines text = codes "\"p\",2,1,V1" ∷ codes "* Vertices" ∷ codes "\"x\",A0" ∷ codes "\"y\",0" ∷ codes "* Arcs" ∷ (codes "V1," ++ (text ++ codes ",1,V1,0")) ∷ []

-- anything may stand at the end of a first line
first_line : IsFirstLine (one_arc None).kinds 2 1 first
first_line = (codes "2", codes "1", codes "!", record { numeral = (omega arith, (omega arith, tt)); short = omega arith; writes = refl }, one_text, refl, omega arith, refl)

-- the most vertices
first_line_of_most : IsFirstLine (replicate 14 Z) 1_000_000_000 0 (codes "* GraphBase graph (util_types ZZZZZZZZZZZZZZ,1000000000V,0A)")
first_line_of_most = (codes "1000000000", codes "0", [], record { numeral = (omega arith, all_digits (codes "1000000000") refl); short = omega arith; writes = refl }, zero_text, refl, omega arith, refl)

-- a line that begins with `*` and something else
is_comment : IsComment comment
is_comment = (refl, λ kinds n m line. other kinds n m line)
  where
    other : (kinds : List Kind) (n m : ℕ) → IsFirstLine kinds n m comment → ⊥
    other kinds n m (vertices, arcs, anything, first_number, second_number, fourteen, few, line) = let third : 98 ≡ 71 = ap (λ t. slice_index t 2) line in absurd (omega (arith, third))

opens : (text : List ℕ) (rest : List (List ℕ)) → clean_lines text ≡ (comment ∷ []) ++ first ∷ rest → Opens text (one_arc None).kinds 2 1 rest
opens text rest are = record { comments = comment ∷ []; first = first; parts = are; comments_are = All-cons IsComment comment [] is_comment (All-nil IsComment); first_says = first_line }

-- the checksum may be any negative number
closing : (records : List (List ℕ)) → IsClosed records (codes "* Checksum -1" ∷ [])
closing records = (codes "* Checksum -1", [], refl, (codes "1", [], 1, one_text, refl, inr (inl (omega arith), refl)))

abbrev text_with : List ℕ → List (List ℕ) → List ℕ
text_with text following = text_of_lines (comment ∷ first ∷ (lines text ++ following))

has_records : HasRecords (text_with (codes "0") (codes "* Checksum -1" ∷ [])) (one_arc None) (lines (codes "0")) (codes "* Checksum -1" ∷ [])
unfolding lines_among without_end_spaces
has_records = (opens _ _ refl, records_are None _ (arc_text None (codes "0") (inl (refl, refl))) refl)

-- it is a file of the graph
restored : IsRestoredAs (text_with (codes "0") (codes "* Checksum -1" ∷ [])) (Ok (one_arc None))
unfolding ends_from numbers_from
restored = (lines (codes "0"), codes "* Checksum -1" ∷ [], has_records, closing (lines (codes "0")), refl)

-- without the last line the code is 11
no_end : IsRestoredAs (text_with (codes "0") []) (Err Late)
unfolding lines_among without_end_spaces
no_end = (one_arc None, lines (codes "0"), [], (opens _ _ refl, records_are None _ (arc_text None (codes "0") (inl (refl, refl))) refl), λ closed. let none : 0 ≡ suc (length closed.1) = ap (λ l. length l) closed.2 in omega (arith, none))

-- a record that is its own next one: 20
ring_read : IsRestoredAs (text_with (codes "A0") (codes "* Checksum -1" ∷ [])) (Err Syntax)
unfolding lines_among without_end_spaces ends_from numbers_from
ring_read = inr (one_arc (Some 0), lines (codes "A0"), codes "* Checksum -1" ∷ [], (opens _ _ refl, records_are (Some 0) _ (arc_text (Some 0) (codes "A0") (inr (codes "0", refl, (0, (zero_text, omega arith), refl)))) refl), closing (lines (codes "A0")), refl)

-- a first line, and no records: 20
no_line_left : (comments records following : List (List ℕ)) (line head : List ℕ) → line ∷ [] ≡ comments ++ head ∷ (records ++ following) → records ≡ []
no_line_left [] [] following line head are = refl
no_line_left [] (r ∷ records) following line head are = let many : 1 ≡ suc (suc (length (records ++ following))) = ap (λ l. length l) are in absurd (omega (arith, many))
no_line_left (c ∷ []) records following line head are = let many : 1 ≡ suc (suc (length (records ++ following))) = ap (λ l. length l) are in absurd (omega (arith, many))
no_line_left (c ∷ d ∷ comments) records following line head are = let many : 1 ≡ suc (suc (length (comments ++ head ∷ (records ++ following)))) = ap (λ l. length l) are in absurd (omega (arith, many))

no_text : (own rest : List ℕ) → [] ≡ own ++ 42 ∷ rest → ⊥
no_text [] rest is = let many : 0 ≡ suc (length rest) = ap (λ l. length l) is in omega (arith, many)
no_text (b ∷ own) rest is = let many : 0 ≡ suc (length (own ++ 42 ∷ rest)) = ap (λ l. length l) is in omega (arith, many)

no_records_follow : IsRestoredAs (text_of_lines (first ∷ [])) (Err Syntax)
unfolding lines_among without_end_spaces
no_records_follow = inl (
  (λ none. none (one_arc None).kinds 2 1 [] (record { comments = []; first = first; parts = refl; comments_are = All-nil IsComment; first_says = first_line })),
  (λ g records following has.
      let none : records ≡ [] = no_line_left has.0.comments records following first has.0.first has.0.parts in
      no_text has.1.own _ (sym (ap (λ l. text_of_lines l) none) ∙ has.1.parts)),
)

-- no first line: 10
no_opening : HasNoOpening (codes "0\n")
unfolding lines_among without_end_spaces
no_opening kinds n m rest is = neither is.comments is.parts is.comments_are is.first_says
  where
    neither : (comments : List (List ℕ)) {line : List ℕ} → codes "0" ∷ [] ≡ comments ++ line ∷ rest → All IsComment comments → IsFirstLine kinds n m line → ⊥
    neither [] {line} are comments_are (vertices, arcs, anything, first_number, second_number, fourteen, few, line_is) =
        let byte : 48 ≡ slice_index line 0 = ap (λ l. slice_index (slice_index_or l 0 []) 0) are in
        let star : slice_index line 0 ≡ 42 = ap (λ t. slice_index t 0) line_is in absurd (omega (arith, byte, star))
    neither (c ∷ comments) {line} are comments_are says =
        let byte : 48 ≡ slice_index c 0 = ap (λ l. slice_index (slice_index_or l 0 []) 0) are in
        absurd (omega (arith, byte, eqb-true (slice_index c 0) 42 (All-head IsComment c comments comments_are).0))

pub no_file_read : IsRestoredAs (codes "0\n") (Err Early)
no_file_read = no_opening
