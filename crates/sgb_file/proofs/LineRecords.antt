-- Records that are one line: their fields are read of the line alone, with the value of a checksum after them.
use Rattle.std.specs.Prelude.{◌≡◌, ◌==◌, ◌≤◌, ◌<◌, ◌++◌, ◌%◌, ◌^◌, ℕ, ℤ, true, not, List, [], ◌∷◌, length, drop, Option, Some, None, refl, ◌+◌, ◌-◌, suc, take, IfSome, slice_index_or as get_or}
use Rattle.sgb_vec.proofs.Common.{ap, sym, ◌∙◌, arith, append_assoc, and_parts, drop_all, drop-append-le, drop_more, length-drop, take-append-drop, nat_tests, list_all-from_AllPass}
use Rattle.sgb_text.proofs.Findings.{found_as}
use Rattle.sgb_graph.specs.declared.fields.Ref.{Ref}
use Rattle.sgb_graph.specs.declared.fields.Kind.{Kind}
use Rattle.sgb_graph.specs.declared.fields.Kind.TheVariants.{A, I, Z}
use Rattle.sgb_graph.specs.declared.fields.Util.{Util}
use Rattle.sgb_graph.specs.declared.fields.Util.TheVariants.{Chain, Int, Nothing}
use Rattle.sgb_graph.specs.Sound.{arc_kinds}
use Rattle.sgb_file.specs.Checksum.{checksum_prime, has_star}
use Rattle.sgb_file.specs.inner.FieldValues.{integer_of, record_number_of, ref_of}
use Rattle.sgb_file.specs.inner.Heads.{Counts, Head}
use Rattle.sgb_file.specs.inner.ReadFields.{field_at, plain_at, string_at}
use Rattle.sgb_file.specs.inner.ReadRecords.{arc_record_at, more_fields_at}
use Rattle.sgb_file.specs.inner.Found.{is_used, checked_text}
use Rattle.sgb_file.specs.inner.Layouts.{checksum_from, counted_bytes, value_after, value_from}
use Rattle.sgb_file.specs.inner.LineRecords.{IsArcLine, IsCountedField, plain_record, AreFieldsOf, IsNamedAt, IsPlainVertex, IsVertexLine}
use Rattle.sgb_file.specs.inner.LinesLeft.{LinesLeft, has_no_newline, next_begun, text_left}
use Rattle.sgb_file.specs.FileLines.{text_of_lines}
use Rattle.sgb_vec.specs.Limits.{most_bytes}
use Rattle.sgb_vec.specs.Names.{IsText}
use Rattle.sgb_graph.specs.Graphs.{GraphData}
use Rattle.sgb_graph.specs.Parts.{vertex_with_ints, with_vertex}
use Rattle.sgb_file.specs.inner.Reading.{IsNextVertex}
use Rattle.sgb_file.proofs.CountedFields.{field_valued, last_valued, no_star, short_counted, comma_free, field_of_line}
use Rattle.sgb_file.proofs.FoundSteps.{first_field, vertex_steps}
use Rattle.sgb_file.proofs.LeftTexts.{next_left, no_line_end, under_way}
use Rattle.sgb_file.proofs.LineLemmas.{list_all-drop}
use Rattle.sgb_file.proofs.LaidLines.{checksum-counted, checksum_from-append}
use Rattle.sgb_file.proofs.StringReading.{has_quote, last_part, opened}

-- what follows a comma in a line has no newline either
pub rest_of_line : (line rest : List ℕ) (k : ℕ) → has_no_newline line ≡ true → drop k line ≡ 44 ∷ rest → has_no_newline rest ≡ true
rest_of_line line rest k h e =
    let all : has_no_newline (44 ∷ rest) ≡ true = ap has_no_newline (sym e) ∙ list_all-drop (λ b. not (b == 10)) k line h in
    (and_parts true (has_no_newline rest) all).1

-- a field of this kind is said by plain bytes, some of them, and its value is made of what they say
pub record IsPlainField {X : Type 0} (counts : Counts) (kind : Kind) (says : List ℕ → Option X) (make : X → Util) : Type 0 where
  pub used : is_used kind ≡ true
  pub none : says [] ≡ None
  pub at : (text : List ℕ) → field_at counts kind text ≡ found_as make (plain_at says text)

pub record_field : (counts : Counts) → IsPlainField counts A (record_number_of counts.arcs) Chain
record_field counts = record { used = refl; none = refl; at = λ text. refl }

pub integer_field : (counts : Counts) → IsPlainField counts I integer_of Int
integer_field counts = record { used = refl; none = refl; at = λ text. refl }

some_bytes : {X : Type 0} (says : List ℕ → Option X) (line : List ℕ) (x : X) → says [] ≡ None → says (comma_free line) ≡ Some x → 0 < length line
some_bytes says line x none e = grind (arith)

-- the same of a line
field_then : {X : Type 0} {counts : Counts} {kind : Kind} {says : List ℕ → Option X} {make : X → Util} {line : List ℕ} {value len counted : ℕ} {x : X}
    (kinds : List Kind) (others : List Util) (after text : List ℕ) → IsPlainField counts kind says make → has_no_newline line ≡ true
    → IsCountedField says line value x len counted → drop len line ≡ after → more_fields_at counts kinds (after ++ 10 ∷ text) ≡ Some (record { value = others; rest = text })
    → more_fields_at counts (kind ∷ kinds) (44 ∷ line ++ 10 ∷ text) ≡ Some (record { value = make x ∷ others; rest = text })
field_then {X = X} {counts = counts} {kind = kind} {says = says} {line = line} {x = x} kinds others after text p h f left more =
    let found = field_of_line X says line after text x h f.said (ap (λ (n : ℕ). drop n line) (sym f.many) ∙ left) in
    first_field counts kind kinds (44 ∷ line ++ 10 ∷ text)
    ∙ rw (p.used, no_line_end line (10 ∷ text) h (some_bytes says line x p.none f.said), p.at (line ++ 10 ∷ text), found, more) refl

-- fields that end a line, after a comma: what they say, and the value of a checksum after the line and its newline
pub record AreRead (counts : Counts) (kinds : List Kind) (us : List Util) (line : List ℕ) (value last : ℕ) : Type 0 where
  pub fields : (text : List ℕ) → more_fields_at counts kinds (44 ∷ line ++ 10 ∷ text) ≡ Some (record { value = us; rest = text })
  pub counted : value_from value (line ++ 10 ∷ []) ≡ last

-- the last of them, where those after it are not used
pub last_read : {X : Type 0} {counts : Counts} {kind : Kind} {says : List ℕ → Option X} {make : X → Util} {line : List ℕ} {value len after : ℕ} {x : X}
    (kinds : List Kind) (us : List Util) → IsPlainField counts kind says make → ((text : List ℕ) → more_fields_at counts kinds (10 ∷ text) ≡ Some (record { value = us; rest = text }))
    → IsCountedField says line value x len after → length line ≤ len → has_no_newline line ≡ true → AreRead counts (kind ∷ kinds) (make x ∷ us) line value (value_after after 10)
last_read kinds us p unused f end h = record { fields = λ text. field_then kinds us [] text p h f (drop_all _ _ end) (unused text); counted = last_valued _ _ _ _ _ _ _ f end }

-- one more before them
pub then_read : {X : Type 0} {counts : Counts} {kind : Kind} {says : List ℕ → Option X} {make : X → Util} {line next : List ℕ} {value len after from last : ℕ} {x : X} {kinds : List Kind} {us : List Util}
    → IsPlainField counts kind says make → IsCountedField says line value x len after → drop len line ≡ 44 ∷ next → from ≡ value_after after 44
    → (has_no_newline next ≡ true → AreRead counts kinds us next from last) → has_no_newline line ≡ true → AreRead counts (kind ∷ kinds) (make x ∷ us) line value last
then_read {line = line} {next = next} {len = len} p f left begun more h =
    let others = more (rest_of_line line next len h left) in record {
      fields = λ text. field_then _ _ (44 ∷ next) text p h f left (others.fields text);
      counted = field_valued _ _ _ line next (10 ∷ []) _ len _ _ f left begun ∙ others.counted;
    }

-- one that is not used
pub unused_read : {counts : Counts} {kinds : List Kind} {us : List Util} {line : List ℕ} {value last : ℕ}
    → AreRead counts kinds us line value last → AreRead counts (Z ∷ kinds) (Nothing ∷ us) line value last
unused_read {counts = counts} {kinds = kinds} {line = line} r =
    record { fields = λ text. first_field counts Z kinds (44 ∷ line ++ 10 ∷ text) ∙ rw (r.fields text) refl; counted = r.counted }

-- and none
pub no_fields : (counts : Counts) (text : List ℕ) → more_fields_at counts [] (10 ∷ text) ≡ Some (record { value = []; rest = text })
unfolding more_fields_at
no_fields counts text = refl

pub no_fields_used : (counts : Counts) (text : List ℕ) → more_fields_at counts (Z ∷ Z ∷ []) (10 ∷ text) ≡ Some (record { value = Nothing ∷ Nothing ∷ []; rest = text })
unfolding more_fields_at
no_fields_used counts text = refl

-- the arc record of the line under way
pub plain_arc_read : (head : Head) (s : LinesLeft) (line : List ℕ) (tip : Ref) (next : Option ℕ) (len : ℤ) → Some line ≡ s.line
    → arc_kinds head.kinds ≡ Z ∷ Z ∷ []
    → IsArcLine head.counts line tip next len
    → arc_record_at head (text_left s) ≡ Some (record { value = plain_record tip next len; rest = text_left (next_begun s) })
plain_arc_read head s line tip next len e kinds is = grind (arith, under_way, next_left)

-- the fields of a line make an arc record
pub arc_line : (counts : Counts) (line second : List ℕ) (tip : Ref) (next : Option ℕ) (len : ℤ) (value i after begun last : ℕ) → has_no_newline line ≡ true
    → IsCountedField (ref_of counts.vertices) line value tip i after → drop i line ≡ 44 ∷ second
    → AreRead counts (A ∷ I ∷ Z ∷ Z ∷ []) (Chain next ∷ Int len ∷ Nothing ∷ Nothing ∷ []) second begun last → IsArcLine counts line tip next len
arc_line counts line second tip next len value i after begun last h f left r head text same kinds =
    rw (same, kinds, field_of_line Ref (ref_of counts.vertices) line (44 ∷ second) text tip h f.said (ap (λ (n : ℕ). drop n line) (sym f.many) ∙ left), r.fields text) refl

-- and the checksum after it
pub arc_counted : (counts : Counts) (line second : List ℕ) (tip : Ref) (next : Option ℕ) (len : ℤ) (sum start i after begun last result : ℕ)
    → IsCountedField (ref_of counts.vertices) line start tip i after → drop i line ≡ 44 ∷ second → begun ≡ value_after after 44
    → AreRead counts (A ∷ I ∷ Z ∷ Z ∷ []) (Chain next ∷ Int len ∷ Nothing ∷ Nothing ∷ []) second begun last → result ≡ last % checksum_prime
    → start ≡ sum → sum < 2 ^ 32 → length line ≤ 30 → result ≡ checksum_from sum (counted_bytes (line ∷ []))
arc_counted counts line second tip next len sum start i after begun last result f left e r is from small few =
    short_counted sum start last result line from small few (no_star counts.vertices line tip f.said)
    (field_valued Ref (ref_of counts.vertices) tip line second (10 ∷ []) start i after begun f left e ∙ r.counted) is

-- the bytes in quotes, where they are a string
name_read : (line name rest text : List ℕ) → has_no_newline line ≡ true → IsNamedAt line name rest → checked_text most_bytes name ≡ Some name
    → string_at most_bytes (line ++ 10 ∷ text) ≡ Some (record { value = name; rest = 44 ∷ rest ++ 10 ∷ text })
name_read line name rest text h n said =
    let quote = has_quote n.quoted n.end n.closed in
    let one : has_no_newline n.quoted ≡ true = grind (arith, and_parts) in
    let within : n.end + 1 ≤ length n.quoted = omega (arith, quote.within) in
    rw (n.opened, opened most_bytes (34 ∷ n.quoted ++ 10 ∷ text) (n.quoted ++ 10 ∷ text) refl, last_part n.quoted (10 ∷ text) n.end one quote most_bytes [])
    (rw (sym n.between, said, drop-append-le (n.end + 1) n.quoted (10 ∷ text) within, n.left) refl)

-- what follows the name has no newline either
pub rest_is_line : (line name rest : List ℕ) → has_no_newline line ≡ true → IsNamedAt line name rest → has_no_newline rest ≡ true
rest_is_line line name rest h n = grind (arith, and_parts, opened, rest_of_line)

-- the record of the vertex
pub vertex_line : (counts : Counts) (line name rest : List ℕ) (first : Option ℕ) (x y z : ℤ) → has_no_newline line ≡ true → IsNamedAt line name rest
    → AreFieldsOf counts rest first x y z → IsVertexLine counts line name first x y z
vertex_line counts line name rest first x y z h n fields head text same kinds said = rw (same, kinds, name_read line name rest text h n said, fields text) refl

-- what follows a comma
past_byte : (bytes : List ℕ) (k : ℕ) (after : List ℕ) → drop k bytes ≡ 44 ∷ after → drop (k + 1) bytes ≡ after
past_byte bytes k after e =
    let within : k < length bytes = omega (arith, ap length e, length-drop k bytes) in
    let parts : get_or bytes k 0 ∷ drop (k + 1) bytes ≡ 44 ∷ after = sym (drop_more bytes k 0 within) ∙ e in cc

-- the line in two parts: its name in quotes with the comma, and the rest
pub named_parts : (line name rest : List ℕ) → IsNamedAt line name rest
    → (length rest < length line) × (take (length line - length rest) line ++ rest ≡ line)
named_parts line name rest n =
    let k : ℕ = suc (n.end + 1 + 1) in
    let left : drop k line ≡ rest = rw n.opened (past_byte n.quoted (n.end + 1) rest n.left) in
    let start : length line - length rest ≡ k = omega (arith, ap length left, ap length n.opened, ap length n.left, length-drop k line, length-drop (n.end + 1) n.quoted) in
    (omega (arith, start), rw (start, sym left) (take-append-drop k line))

-- the checksum after the line
pub vertex_counted : (line name rest : List ℕ) (sum middle result : ℕ) → IsNamedAt line name rest
    → middle ≡ checksum_from sum (take (length line - length rest) line)
    → result ≡ checksum_from middle (rest ++ 10 ∷ []) → result ≡ checksum_from sum (counted_bytes (line ∷ []))
vertex_counted line name rest sum middle result n m r =
    let front = take (length line - length rest) line in
    rw (r, m, sym (checksum_from-append sum front (rest ++ 10 ∷ [])), sym (append_assoc front rest (10 ∷ [])), (named_parts line name rest n).1)
    (checksum_from-append sum line (10 ∷ []) ∙ checksum-counted sum line (ap has_star n.opened))

-- what two clauses say of a result
pub if_some_both : {X : Type 0} (result : Option X) (P Q R : X → Type 0) → ((x : X) → P x → Q x → R x) → IfSome result P → IfSome result Q
    → IfSome result R
if_some_both result P Q R f p q = grind (arith)

-- bytes that are a string are said by themselves
text_checked : (bytes : List ℕ) → IsText bytes → checked_text most_bytes bytes ≡ Some bytes
text_checked bytes text = grind (arith, nat_tests, list_all-from_AllPass)

-- the vertex of the line under way, with its name as a text
pub plain_vertex_read : (head : Head) (s : LinesLeft) (name text : List ℕ) (first : Option ℕ) (x y z : ℤ) (sum : ℕ) (before after : GraphData)
    → IsPlainVertex head s name first x y z sum → text ≡ name → IsText name → after ≡ with_vertex (vertex_with_ints text first x y z) before
    → IsNextVertex head (text_left s) before after (text_left (next_begun s))
plain_vertex_read head s name text first x y z sum before after v same is added =
    let found = sym (vertex_steps head (text_left s)) ∙ rw (under_way s v.line (sym v.whole.0), v.vertex head (text_of_lines s.others) refl v.kinds (text_checked name is), next_left s) refl in
    (vertex_with_ints name first x y z, found, rw (sym same) added)
