-- The records of a file as they are written: each is a record of the graph's, with breaks in its texts.
use Rattle.sgb_vec.proofs.Common.{arith, ◌≡◌, ℕ, Bool, true, cond, List, [], ◌∷◌, ◌++◌, length, codes, decimal, Option, Some, All, refl, signed_decimal, flat_map, and_parts, All-head, All-tail}
use Rattle.sgb_vec.specs.Limits.{most_bytes}
use Rattle.sgb_graph.specs.Graphs.{GraphData}
use Rattle.sgb_graph.specs.Ids.{most_id_bytes}
use Rattle.sgb_graph.specs.Sound.{util_fits, utils_fit, graph_kinds}
use Rattle.sgb_graph.specs.declared.fields.Kind.{Kind}
use Rattle.sgb_graph.specs.declared.fields.Kind.TheVariants.{Z, I, V, S, A}
use Rattle.sgb_graph.specs.declared.fields.Util.{Util}
use Rattle.sgb_graph.specs.declared.fields.Util.TheVariants.{Nothing, Int, Vertex as VertexField, Str, Chain}
use Rattle.sgb_file.specs.FileLines.{text_of_lines}
use Rattle.sgb_file.specs.Fields.{most_number_digits}
use Rattle.sgb_file.specs.inner.FieldValues.{number_of, integer_of, ref_of, record_number_of}
use Rattle.sgb_file.specs.inner.Heads.{Counts, head_of, IsRecordAmong}
use Rattle.sgb_text.specs.Languages.{Each}
use Rattle.sgb_file.specs.Files.{IsFieldText, IsComma, AreMoreFields, IsGraphRecord}
use Rattle.sgb_file.specs.Saving.{quoted, ref_text, record_number_text, field_texts, record_lines}
use Rattle.sgb_file.specs.inner.SavedLines.{graph_texts}
use Rattle.sgb_file.specs.Saved.{ValueCanBeSaved}
use Rattle.sgb_file.proofs.LineLemmas.{is_line}
use Rattle.sgb_file.proofs.LaidOutText.{with_breaks, after_field, lay_out, laid_out_text}
use Rattle.sgb_file.proofs.FieldReading.{IsBroken, IsSaid, said_broken, number_is_said, integer_is_said, ref_is_said, record_number_is_said, string_is_said, quoted_is_line}
use Rattle.sgb_file.proofs.SavedGraphs.{AreSmall, FieldsFit, IsReady}
use Rattle.sgb_file.proofs.FieldsAndTexts.{digits_found, integer_found, record_number_found, ref_found}

-- a field that has a text: with any breaks it says the value, and it is a line as it is written
pub record IsField (counts : Counts) (kind : Kind) (u : Util) : Type 0 where
  pub text : List ℕ
  pub texts : field_texts u ≡ text ∷ []
  pub says : (broken : List ℕ) → IsBroken text broken → IsFieldText counts.vertices counts.arcs kind broken u
  pub line : is_line text ≡ true

plain_field : {X : Type 0} (counts : Counts) (kind : Kind) (u : Util) (says : List ℕ → Option X) (text : List ℕ) (x : X) → field_texts u ≡ text ∷ []
    → ((broken : List ℕ) → says broken ≡ Some x → IsFieldText counts.vertices counts.arcs kind broken u) → IsSaid says text x → IsField counts kind u
plain_field counts kind u says text x texts is s = record { text = text; texts = texts; says = λ broken b. is broken (said_broken says text x s broken b); line = s.line }

pub field_of : (counts : Counts) → AreSmall counts → (kind : Kind) (u : Util) → (kind ≡ Z → ⊥) → util_fits counts.vertices counts.arcs kind u ≡ true → ValueCanBeSaved u → IsField counts kind u
field_of counts small Z u used fits h = absurd (used refl)
field_of counts small I (Int i) used fits h = plain_field counts I (Int i) integer_of (signed_decimal i) i refl (λ text said. (i, integer_found text i said, refl)) (integer_is_said i h)
field_of counts small V (VertexField r) used fits h =
    plain_field counts V (VertexField r) (ref_of counts.vertices) (ref_text r) r refl (λ text said. (r, ref_found counts.vertices text r said, refl)) (ref_is_said counts.vertices r small.vertices fits)
field_of counts small S (Str s) used fits h = record {
  text = quoted s;
  texts = refl;
  says = λ broken b. (s, string_is_said most_bytes s h.short h.printable broken b, refl);
  line = quoted_is_line s h.printable;
}
field_of counts small A (Chain first) used fits h =
    plain_field counts A (Chain first) (record_number_of counts.arcs) (record_number_text first) first refl (λ text said. (first, record_number_found counts.arcs text first said, refl)) (record_number_is_said counts.arcs first small.arcs fits)
field_of counts small _ _ used fits h = absurd cc

-- a comma, and the end of the line or not
is_comma : (gap : Bool) → IsComma (44 ∷ cond gap (10 ∷ []) []) tt
is_comma gap = grind (arith)

-- these texts as they stand with breaks, each after a comma, and a newline at the end
abbrev AreLaid : List (List ℕ) → List ℕ → Type 0
AreLaid [] tail = tail ≡ codes "\n"
AreLaid (text ∷ texts) tail = (comma broken others : List ℕ) × IsComma comma tt × IsBroken text broken × AreLaid texts others × (tail ≡ comma ++ (broken ++ others))

-- what is written after a field
tail_written : (line : List ℕ) (texts : List (List ℕ)) → AreLaid texts (after_field line texts)
tail_written line [] = refl
tail_written line (text ∷ texts) =
    let laid = lay_out line text texts in
    grind (arith, laid, is_comma laid.gap, tail_written laid.next texts)

-- the lines of a record with these texts
record_written : (text : List ℕ) (texts : List (List ℕ)) → (broken others : List ℕ) × IsBroken text broken × AreLaid texts others × (text_of_lines (record_lines (text ∷ texts)) ≡ broken ++ others)
record_written text texts = grind (arith, with_breaks, after_field, laid_out_text, tail_written, lay_out [] text texts)

-- the texts of fields with breaks are texts of the fields
field_more : (counts : Counts) (kind : Kind) (kinds : List Kind) (u : Util) (us : List Util) (comma broken others : List ℕ) → IsComma comma tt → IsFieldText counts.vertices counts.arcs kind broken u → AreMoreFields counts.vertices counts.arcs kinds others us
    → AreMoreFields counts.vertices counts.arcs (kind ∷ kinds) (comma ++ (broken ++ others)) (u ∷ us)
field_more counts kind kinds u us comma broken others is says more = grind (arith, says)

more_written : (counts : Counts) → AreSmall counts → (kinds : List Kind) (us : List Util) → utils_fit counts.vertices counts.arcs kinds us ≡ true → All ValueCanBeSaved us
    → (tail : List ℕ) → AreLaid (flat_map field_texts us) tail → AreMoreFields counts.vertices counts.arcs kinds tail us
more_written counts small [] [] fits h tail laid = (laid, refl)
more_written counts small (Z ∷ kinds) (Nothing ∷ us) fits h tail laid = (us, more_written counts small kinds us fits (All-tail ValueCanBeSaved Nothing us h) tail laid, refl)
more_written counts small (kind ∷ kinds) (u ∷ us) fits h tail laid =
    let parts = and_parts (util_fits counts.vertices counts.arcs kind u) (utils_fit counts.vertices counts.arcs kinds us) fits in
    let field = field_of counts small kind u (λ z. absurd cc) parts.0 (All-head ValueCanBeSaved u us h) in
    grind (arith, field_more, field, more_written counts small kinds us parts.1 (All-tail ValueCanBeSaved u us h))
more_written counts small _ _ fits h tail laid = absurd cc

-- the record of fields, a vertex's or an arc's, and the graph's
pub fields_stand : (counts : Counts) → AreSmall counts → (kind : Kind) (kinds : List Kind) (u : Util) (us : List Util) → (kind ≡ Z → ⊥) → FieldsFit counts (kind ∷ kinds) (u ∷ us)
    → IsRecordAmong counts kind kinds (text_of_lines (record_lines (flat_map field_texts (u ∷ us)))) (u ∷ us)
fields_stand counts small kind kinds u us used h =
    let parts = and_parts (util_fits counts.vertices counts.arcs kind u) (utils_fit counts.vertices counts.arcs kinds us) h.fits in
    let field = field_of counts small kind u used parts.0 (All-head ValueCanBeSaved u us h.values) in
    let w = record_written field.text (flat_map field_texts us) in
    grind (arith, field, w, more_written counts small kinds us parts.1 (All-tail ValueCanBeSaved u us h.values))

pub graph_written : (g : GraphData) → IsReady g → IsGraphRecord g (text_of_lines (record_lines (graph_texts g)))
graph_written g h =
    let n = length g.vertices in
    let w = record_written (quoted g.id) (decimal n ∷ decimal g.m ∷ flat_map field_texts g.util) in
    let a = w.3 in
    let b = a.5 in
    let n_says = digits_found most_number_digits a.1 n (said_broken (number_of most_number_digits) (decimal n) n (number_is_said n (omega (arith, h.vertices_few))) a.1 a.4) in
    let m_says = digits_found most_number_digits b.1 g.m (said_broken (number_of most_number_digits) (decimal g.m) g.m (number_is_said g.m h.arcs_few) b.1 b.4) in
    let fields = more_written (head_of g).counts h.small (graph_kinds g.kinds) g.util h.own.fits h.own.values b.2 b.5 in (
      w.0,
      w.1,
      g.id,
      w.4,
      string_is_said most_id_bytes g.id h.id.short h.id.printable w.0 w.2,
      (a.0, a.1 ++ a.2, tt, a.6, a.3, (a.1, a.2, n, refl, n_says, (b.0, b.1 ++ b.2, tt, b.6, b.3, (b.1, b.2, g.m, refl, m_says, (g.util, fields, refl))))),
    )

-- records one after another
pub all_written : {X : Type 0} (text_of : X → List ℕ) (IsOne : List ℕ → X → Type 0) (IsGood : X → Type 0) → ((x : X) → IsGood x → IsOne (text_of x) x)
    → (xs : List X) → All IsGood xs → Each IsOne (flat_map text_of xs) xs
all_written text_of IsOne IsGood each [] h = refl
all_written text_of IsOne IsGood each (x ∷ xs) h =
    (text_of x, flat_map text_of xs, refl, each x (All-head IsGood x xs h), all_written text_of IsOne IsGood each xs (All-tail IsGood x xs h))
