-- Files and their texts: their openings, their records and their closing lines are read exactly where they stand.
use Rattle.sgb_vec.proofs.Common.{rules, ap, sym, ◌∙◌, append_assoc, arith, length-append, inl, inr, subst, ◌≡◌, ◌⊎◌, ℕ, ℤ, pos, neg_ℤ, ◌-◌, ◌<◌, Bool, true, false, List, [], ◌∷◌, ◌++◌, length, take, drop, codes, Option, Some, None, All, slice_index, ◌==◌, if◌then◌else◌, refl, list_all, option_map_or, take-append_seam, and_parts, and_from, nat_tests, Decides-eqb, flat_map-append, list_all-append, All-head, All-tail, All-cons, All-nil}
use Rattle.sgb_text.proofs.Findings.{Found, after_prefix, prefix_is, was_given, was_mapped, was_either}
use Rattle.sgb_vec.specs.Limits.{most_vertices}
use Rattle.sgb_graph.specs.Graphs.{GraphData}
use Rattle.sgb_graph.specs.Sound.{arc_kinds}
use Rattle.sgb_graph.specs.declared.fields.Kind.{Kind}
use Rattle.sgb_graph.specs.declared.fields.Kind.TheVariants.{A, I, V}
use Rattle.sgb_graph.specs.declared.fields.Util.{Util}
use Rattle.sgb_text.specs.Checksums.{agrees}
use Rattle.sgb_text.specs.Languages.{Each}
use Rattle.sgb_file.specs.FileLines.{clean_lines, text_of_lines}
use Rattle.sgb_file.specs.inner.LinesLeft.{lines_of_text}
use Rattle.sgb_file.specs.Checksum.{has_star, checksum_of_lines}
use Rattle.sgb_file.specs.Fields.{most_number_digits}
use Rattle.sgb_file.specs.inner.FieldValues.{number_of}
use Rattle.sgb_file.specs.inner.Heads.{Counts, Head, AreRecordLines, head_of, SaysHead, OpensWith, IsRecordAmong}
use Rattle.sgb_file.specs.Files.{IsComment, IsChecksumLine, AreMoreFields, IsArcRecord, AreRecordsOf, IsClosed}
use Rattle.sgb_file.specs.inner.ReadRecords.{records_at}
use Rattle.sgb_file.specs.inner.ReadFiles.{Opening, leading_number, head_of_line, opening_of, checksum_in_line, line_closes, closes}
use Rattle.sgb_file.proofs.LineLemmas.{is_one_line, lines_again, lines_read, clean_are_one_line}
use Rattle.sgb_file.proofs.NumberReading.{at_most_passes, number_says}
use Rattle.sgb_file.proofs.FirstLines.{IsLeading, leading_found, leading_says, first_line_found, kinds_read}
use Rattle.sgb_file.proofs.RecordsAndTexts.{finds_records}
use Rattle.sgb_file.proofs.FieldsAndTexts.{digits_again, digits_found}

-- and a first line is read as one
first_line_read : (head : Head) (line : List ℕ) → SaysHead head line → head_of_line line ≡ Some head
first_line_read head line (n, m, anything, n_says, m_says, fourteen, few, form) =
    rw (form, kinds_read head.kinds _ fourteen, leading_says n _ head.counts.vertices n_says refl)
    (rw (leading_says m _ head.counts.arcs m_says refl, at_most_passes head.counts.vertices most_vertices few) refl)

-- nothing is there where nothing can be
pub none_there : {X : Type 0} (o : Option X) → ((x : X) → o ≡ Some x → ⊥) → o ≡ None
none_there o h = grind (arith)

-- comments and a first line open a file
pub opening_read : (head : Head) (comments : List (List ℕ)) (first : List ℕ) (lines : List (List ℕ)) → All IsComment comments → SaysHead head first
    → opening_of (comments ++ first ∷ lines) ≡ Some (record { head = head; lines = lines })
unfolding opening_of
opening_read head [] first lines h says = rw (first_line_read head first says) refl
opening_read head (line ∷ comments) first lines h says =
    let comment = All-head IsComment line comments h in
    let none = none_there (head_of_line line) (λ head e. comment.1 head.kinds head.counts.vertices head.counts.arcs (first_line_found line head e)) in
    rw (none, comment.0) (opening_read head comments first lines (All-tail IsComment line comments h) says)

-- comments, a first line, and the lines after it
abbrev pub IsOpened : List (List ℕ) → Opening → Type 0
IsOpened lines opening = (comments : List (List ℕ)) × (first : List ℕ) × All IsComment comments × SaysHead opening.head first × (lines ≡ comments ++ first ∷ opening.lines)

comment_found : (line : List ℕ) → head_of_line line ≡ None → has_star line ≡ true → IsComment line
comment_found line none star = (star, λ kinds n m says. let is = first_line_read (record { kinds = kinds; counts = record { vertices = n; arcs = m } }) line says in absurd cc)

-- what is read of a line and those after it
opened_where : (o : Option Head) (star : Bool) (lines : List (List ℕ)) (later : Option Opening) (opening : Opening)
    → option_map_or (λ head. Some (record { head = head; lines = lines })) o (if star then later else None) ≡ Some opening
    → ((o ≡ Some opening.head) × (lines ≡ opening.lines)) ⊎ ((o ≡ None) × (star ≡ true) × (later ≡ Some opening))
opened_where o star lines later opening e = grind (arith)

pub opening_found : (lines : List (List ℕ)) (opening : Opening) → opening_of lines ≡ Some opening → IsOpened lines opening
unfolding opening_of
opening_found [] opening e = absurd cc
opening_found (line ∷ lines) opening e = elim (opened_where (head_of_line line) (has_star line) lines (opening_of lines) opening e) [
  | inl h ↦ ([], line, All-nil IsComment, first_line_found line opening.head h.0, ap (λ ls. line ∷ ls) h.1)
  | inr h ↦ let o = opening_found lines opening h.2 in (line ∷ o.0, o.1, All-cons IsComment line o.0 (comment_found line h.0 h.1) o.2, o.3, ap (λ ls. line ∷ ls) o.4)
]

-- a minus stands for a negative number, or for 0
minus_agrees : (k : ℕ) (lines : List (List ℕ)) → agrees (neg_ℤ (pos k)) (checksum_of_lines lines) ≡ true → (0 < k) ⊎ (k ≡ checksum_of_lines lines)
minus_agrees k lines h = grind (arith, Decides-eqb)

minus_passes : (k : ℕ) (lines : List (List ℕ)) → (0 < k) ⊎ (k ≡ checksum_of_lines lines) → agrees (neg_ℤ (pos k)) (checksum_of_lines lines) ≡ true
minus_passes k lines h = grind (arith, nat_tests)

minus_first : (text : List ℕ) → (slice_index text 0 == 45) ≡ true → text ≡ 45 ∷ drop 1 text
minus_first text h = grind (arith, Decides-eqb)

-- a line with a number that agrees is a checksum's
agreeing_line : (sum : ℕ) (line text : List ℕ) (found : Found ℕ) → IsLeading text found
    → ((found.value ≡ sum) × (line ≡ codes "* Checksum " ++ text)) ⊎ (((0 < found.value) ⊎ (found.value ≡ sum)) × (line ≡ codes "* Checksum -" ++ text)) → IsChecksumLine sum line
agreeing_line sum line text found l h = grind (arith, digits_found)

-- a line that is read as an agreeing checksum's is one
checksum_found : (line : List ℕ) (c : ℤ) (lines : List (List ℕ)) → checksum_in_line line ≡ Some c → agrees c (checksum_of_lines lines) ≡ true → IsChecksumLine (checksum_of_lines lines) line
checksum_found line c lines e agrees =
    let g = was_given (after_prefix (codes "* Checksum ") line) e in
    let text = g.first in
    let parts = prefix_is (codes "* Checksum ") line text g.here in
    elim (was_either (slice_index text 0 == 45) g.made) [
      | inl h ↦
          let m = was_mapped (leading_number (drop 1 text)) h.1 in
          agreeing_line (checksum_of_lines lines) line (drop 1 text) m.first (leading_found (drop 1 text) m.first m.here)
          (inr (minus_agrees m.first.value lines (rw m.same agrees), rw (sym (minus_first text h.0)) parts))
      | inr h ↦
          let m = was_mapped (leading_number text) h.1 in
          agreeing_line (checksum_of_lines lines) line text m.first (leading_found text m.first m.here) (inl (grind (arith, nat_tests, m), parts))
    ]

-- digits do not begin with a minus
digits_no_minus : (digits more : List ℕ) (k : ℕ) → number_of most_number_digits digits ≡ Some k → (slice_index (digits ++ more) 0 == 45) ≡ false
digits_no_minus [] more k e = absurd cc
digits_no_minus (b ∷ digits) more k e = grind (arith, and_parts, number_says, nat_tests)

-- the line after the records closes the file
pub line_closed : (records following : List (List ℕ)) → IsClosed records following → line_closes records following ≡ true
line_closed records following (last, others, parts, (digits, anything, k, says, ends, inl (same, whole))) =
    rw (parts, whole, digits_no_minus digits anything k (digits_again most_number_digits digits k says), leading_says digits anything k says ends) ((Decides-eqb k (checksum_of_lines records)).1 same)
line_closed records following (last, others, parts, (digits, anything, k, says, ends, inr (agrees, whole))) =
    rw (parts, whole, leading_says digits anything k says ends) (minus_passes k records agrees)

-- a text that ends with a newline
pub record EndsLine (text : List ℕ) : Type 0 where
  pub front : List ℕ
  pub whole : text ≡ front ++ 10 ∷ []

ends_too : (before text : List ℕ) → EndsLine text → EndsLine (before ++ text)
ends_too before text h = record { front = before ++ h.front; whole = ap (λ x. before ++ x) h.whole ∙ sym (append_assoc before h.front (10 ∷ [])) }

more_end : (counts : Counts) (kinds : List Kind) (us : List Util) (whole : List ℕ) → AreMoreFields counts.vertices counts.arcs kinds whole us → EndsLine whole
more_end counts [] us whole h = record { front = []; whole = h.0 }
more_end counts (kind ∷ kinds) us whole h = grind (arith, EndsLine, ends_too, more_end counts kinds)

record_ends : (counts : Counts) (kind : Kind) (kinds : List Kind) (us : List Util) (whole : List ℕ) → IsRecordAmong counts kind kinds whole us → EndsLine whole
record_ends counts kind kinds us whole h = grind (arith, ends_too, more_end)

records_end : {X : Type 0} (IsOne : List ℕ → X → Type 0) → ((x : X) (whole : List ℕ) → IsOne whole x → EndsLine whole)
    → (xs : List X) (whole : List ℕ) → Each IsOne whole xs → (line : List ℕ) → EndsLine (line ++ 10 ∷ whole)
records_end IsOne ends [] whole h line = record { front = line; whole = ap (λ x. line ++ 10 ∷ x) h }
records_end IsOne ends (x ∷ xs) whole h line = grind (arith, append_assoc, EndsLine, records_end IsOne ends xs h.1 h.4 (line ++ 10 ∷ (ends x h.0 h.3).front))

pub all_records_end : (g : GraphData) (whole : List ℕ) → AreRecordsOf g whole → EndsLine whole
all_records_end g whole h =
    let arcs = records_end (IsArcRecord g) (λ r t is. record_ends (head_of g).counts V (A ∷ I ∷ arc_kinds g.kinds) _ t is) g.records h.arcs h.arc_records (codes "* Arcs") in
    rw h.parts (ends_too h.own _ (ends_too (codes "* Vertices\n") _ (ends_too h.vertices (codes "* Arcs\n" ++ h.arcs) arcs)))

-- such a text is made of lines
record IsOfLines (text : List ℕ) : Type 0 where
  first : List ℕ
  others : List (List ℕ)
  one_lines : list_all is_one_line (first ∷ others) ≡ true
  whole : text ≡ text_of_lines (first ∷ others)

front_is_of_lines : (front : List ℕ) → IsOfLines (front ++ 10 ∷ [])
front_is_of_lines [] = record { first = []; others = []; one_lines = refl; whole = refl }
front_is_of_lines (b ∷ front) = by_byte (b == 10) refl (front_is_of_lines front)
  where
    by_byte : (t : Bool) → (b == 10) ≡ t → IsOfLines (front ++ 10 ∷ []) → IsOfLines (b ∷ front ++ 10 ∷ [])
    by_byte true e h = record { first = []; others = h.first ∷ h.others; one_lines = h.one_lines; whole = grind (arith, Decides-eqb) }
    by_byte false e h = record { first = b ∷ h.first; others = h.others; one_lines = grind (arith, and_parts, and_from); whole = ap (λ x. b ∷ x) h.whole }

-- the lines after a part of them
pub last_lines : (xs ys : List (List ℕ)) → list_all is_one_line (xs ++ ys) ≡ true → list_all is_one_line ys ≡ true
last_lines xs ys h = grind (arith, list_all-append, and_parts)

before_following : (records following : List (List ℕ)) → take (length (records ++ following) - length following) (records ++ following) ≡ records
before_following records following =
    let count : length (records ++ following) - length following ≡ length records = rw (length-append records following) (omega arith) in
    rw count (take-append_seam records following)

-- what follows the records, where the file closes
pub closed_found : (records following : List (List ℕ)) → line_closes records following ≡ true → IsClosed records following
closed_found records [] e = absurd cc
closed_found records (last ∷ others) e = by_checksum (checksum_in_line last) refl e
  where
    by_checksum : (o : Option ℤ) → checksum_in_line last ≡ o → option_map_or (λ c. agrees c (checksum_of_lines records)) o false ≡ true → IsClosed records (last ∷ others)
    by_checksum None here e = absurd cc
    by_checksum (Some c) here e = (last, others, refl, checksum_found last c records here e)

pub closes_by : (opening : Opening) (records : List (List ℕ)) (rest : List ℕ) → opening.lines ≡ records ++ lines_of_text rest → closes opening rest ≡ line_closes records (lines_of_text rest)
closes_by opening records rest e = search (rules, before_following, records)

-- an opening is read, and what is read is an opening
pub opens_read : (text : List ℕ) (head : Head) (lines : List (List ℕ)) → OpensWith text head lines → opening_of (clean_lines text) ≡ Some (record { head = head; lines = lines })
opens_read text head lines h = ap opening_of h.parts ∙ opening_read head h.comments h.first lines h.comments_are h.first_says

pub opens_found : (text : List ℕ) (o : Opening) → opening_of (clean_lines text) ≡ Some o → OpensWith text o.head o.lines
opens_found text o e = grind (arith, opening_found)

-- no newline stands in the lines after an opening
pub after_opening : (text : List ℕ) (head : Head) (lines : List (List ℕ)) → OpensWith text head lines → list_all is_one_line lines ≡ true
after_opening text head lines h =
    (and_parts (is_one_line h.first) (list_all is_one_line lines) (last_lines h.comments (h.first ∷ lines) (rw (sym h.parts) (clean_are_one_line text)))).1

-- the records are read, and what is read are records
pub records_read : (head : Head) (g : GraphData) (records following lines : List (List ℕ)) → AreRecordLines head g records following lines
    → records_at head (text_of_lines lines) ≡ Some (record { value = g; rest = text_of_lines following })
records_read head g records following lines h =
    rw (h.parts, flat_map-append (λ l. l ++ 10 ∷ []) records following)
    ((finds_records head).again (text_of_lines records) (text_of_lines following) g (record { counted = h.counted; are = h.say }) tt)

-- the lines of the records that were found
pub lines_found : (head : Head) (lines : List (List ℕ)) (found : Found GraphData) → list_all is_one_line lines ≡ true → records_at head (text_of_lines lines) ≡ Some found
    → (records : List (List ℕ)) × AreRecordLines head found.value records (lines_of_text found.rest) lines
lines_found head lines found one_lines e =
    let r = (finds_records head).found (text_of_lines lines) found e in
    let ends = all_records_end r.value r.word r.says.are in
    let h : IsOfLines r.word = rw ends.whole (front_is_of_lines ends.front) in
    let parts = sym (lines_again lines one_lines) ∙ ap lines_of_text (r.parts ∙ ap (λ x. x ++ r.rest) h.whole) ∙ lines_read (h.first ∷ h.others) r.rest h.one_lines in
    rw (sym r.made) (h.first ∷ h.others, record { counted = r.says.counted; say = subst (λ x. AreRecordsOf r.value x) h.whole r.says.are; parts = parts })
