-- What is read of a file's records: fields that fit their kinds, texts and numbers within their limits.
use Rattle.sgb_vec.proofs.Common.{sym, subst, ◌∙◌, arith, ◌≡◌, ℕ, ◌<◌, ◌≤◌, true, List, [], ◌∷◌, length, get_or, Some, Ok, Err, All, if◌then◌else◌, refl, and_from, All-cons, All-nil, AllPass-from_list_all, list_all-from_AllPass}
use Rattle.sgb_text.proofs.Findings.{Found}
use Rattle.sgb_vec.specs.Limits.{most_vertices}
use Rattle.sgb_vec.specs.Names.{IsTextByte, is_text_byte}
use Rattle.sgb_vec.specs.declared.panics.Panic.TheVariants.{Syntax}
use Rattle.sgb_graph.specs.Graphs.{GraphData}
use Rattle.sgb_graph.specs.Ids.{most_id_bytes}
use Rattle.sgb_graph.specs.Parts.{checked}
use Rattle.sgb_graph.specs.Sound.{util_fits, vertex_fits, record_fits, is_sound, graph_kinds}
use Rattle.sgb_graph.specs.declared.fields.Kind.{Kind}
use Rattle.sgb_graph.specs.declared.fields.Kind.TheVariants.{Z}
use Rattle.sgb_graph.specs.declared.fields.Util.{Util}
use Rattle.sgb_graph.specs.declared.fields.Util.TheVariants.{Nothing}
use Rattle.sgb_file.specs.FileLines.{text_of_lines}
use Rattle.sgb_file.specs.Fields.{most_number_digits}
use Rattle.sgb_file.specs.inner.Heads.{Counts, Head, head_of, SaysHead, IsGraphAfter, IsRecordAmong}
use Rattle.sgb_file.specs.Files.{IsFieldText, AreMoreFields, IsVertexRecord, IsArcRecord, AreRecordsOf}
use Rattle.sgb_text.specs.Languages.{Each}
use Rattle.sgb_file.specs.inner.ReadFiles.{Opening, opening_of, graph_of_records, graph_of_text}
use Rattle.sgb_file.specs.Saved.{number_limit, ValueCanBeSaved, CanBeChecked, CanBeSaved}
use Rattle.sgb_file.proofs.NumberReading.{at_most_passes, number_is_small}
use Rattle.sgb_file.proofs.FilesAndTexts.{opening_found}
use Rattle.sgb_file.proofs.FieldsAndTexts.{record_number_says, ref_says, digits_again}
use Rattle.sgb_file.proofs.RecordsAndTexts.{finds_records}
use Rattle.sgb_file.proofs.RefusedTexts.{restored_as}
use Rattle.sgb_file.proofs.SavedGraphs.{FieldsFit, VertexFits, ArcFits, arc_saved, arc_tests, vertex_saved}

-- a value whose text is a field's fits its kind, and can be saved
record FieldFits (counts : Counts) (kind : Kind) (u : Util) : Type 0 where
  fits : util_fits counts.vertices counts.arcs kind u ≡ true
  value : ValueCanBeSaved u

field_fits : (counts : Counts) (kind : Kind) (u : Util) (text : List ℕ) → IsFieldText counts.vertices counts.arcs kind text u → FieldFits counts kind u
field_fits counts kind u text h = grind (arith, FieldFits, ref_says, record_number_says, AllPass-from_list_all)

one_more_fits : (counts : Counts) (kind : Kind) (kinds : List Kind) (u : Util) (us : List Util) → FieldFits counts kind u → FieldsFit counts kinds us → FieldsFit counts (kind ∷ kinds) (u ∷ us)
one_more_fits counts kind kinds u us one more = grind (arith, and_from, All-cons, FieldsFit)

fields_fit : (counts : Counts) (kinds : List Kind) (us : List Util) (whole : List ℕ) → AreMoreFields counts.vertices counts.arcs kinds whole us → FieldsFit counts kinds us
fields_fit counts [] us whole h = rw h.1 (record { fits = refl; values = All-nil ValueCanBeSaved })
fields_fit counts (Z ∷ kinds) us whole h = rw h.2 (one_more_fits counts Z kinds Nothing h.0 (record { fits = refl; value = tt }) (fields_fit counts kinds h.0 whole h.1))
fields_fit counts (kind ∷ kinds) us whole h = rw h.5.5.2 (one_more_fits counts kind kinds h.5.2 h.5.5.0 (field_fits counts kind h.5.2 h.5.0 h.5.4) (fields_fit counts kinds h.5.5.0 h.5.1 h.5.5.1))

record_fits_kinds : (counts : Counts) (kind : Kind) (kinds : List Kind) (us : List Util) (whole : List ℕ) → IsRecordAmong counts kind kinds whole us → FieldsFit counts (kind ∷ kinds) us
record_fits_kinds counts kind kinds us whole h = rw h.5.2 (one_more_fits counts kind kinds h.2 h.5.0 (field_fits counts kind h.2 h.0 h.4) (fields_fit counts kinds h.5.0 h.1 h.5.1))

-- what a graph's record says
record OwnFits (head : Head) (bytes : List ℕ) (m : ℕ) (util : List Util) : Type 0 where
  id : (length bytes ≤ most_id_bytes) × All IsTextByte bytes
  few : m < number_limit
  fields : FieldsFit head.counts (graph_kinds head.kinds) util

own_fits : (head : Head) (g : GraphData) (whole : List ℕ) → IsGraphAfter head whole g → OwnFits head g.id g.m g.util
own_fits head g whole (a, b, id, e, says, (c, d, none, p, comma, (f, h, n, q, n_says, (i, j, also, r, comma2, (k, l, m, s, m_says, (util, are, same)))))) =
    subst (λ (p : List ℕ × ℕ × ℕ × List Util). OwnFits head p.0 p.2 p.3) (sym same) (record {
      id = (says.4, AllPass-from_list_all is_text_byte id says.5);
      few = number_is_small most_number_digits k m (digits_again most_number_digits k m m_says);
      fields = fields_fit head.counts (graph_kinds head.kinds) util l are;
    })

-- what holds of all of a list where each one's record stands
each_record : {X : Type 0} (IsOne : List ℕ → X → Type 0) (IsGood : X → Type 0) → ((x : X) (whole : List ℕ) → IsOne whole x → IsGood x) → (xs : List X) (whole : List ℕ) → Each IsOne whole xs → All IsGood xs
each_record IsOne IsGood good [] whole h = All-nil IsGood
each_record IsOne IsGood good (x ∷ xs) whole h = All-cons IsGood x xs (good x h.0 h.3) (each_record IsOne IsGood good xs h.1 h.4)

-- all that the records of a file say
pub record IsGoodHead (head : Head) : Type 0 where
  pub vertices : head.counts.vertices ≤ most_vertices
  pub kinds : length head.kinds ≡ 14
  pub arcs : head.counts.arcs < number_limit

-- a first line within the limits
pub first_is_good : (line : List ℕ) (head : Head) → SaysHead head line → IsGoodHead head
first_is_good line head (n, m, anything, n_says, m_says, fourteen, few, form) =
    record { vertices = few; kinds = fourteen; arcs = number_is_small most_number_digits m head.counts.arcs (digits_again most_number_digits m head.counts.arcs m_says) }

-- what the records of a file say can be checked
pub parts_can_be_checked : (g : GraphData) (whole : List ℕ) → IsGoodHead (head_of g) → AreRecordsOf g whole → CanBeChecked g
parts_can_be_checked g whole good h =
    let vertices = each_record (IsVertexRecord g) (VertexFits g) (λ v text is. record_fits_kinds (head_of g).counts _ _ _ text is) g.vertices h.vertices h.vertex_records in
    let arcs = each_record (IsArcRecord g) (ArcFits g) (λ r text is. record_fits_kinds (head_of g).counts _ _ _ text is) g.records h.arcs h.arc_records in
    let own = own_fits (head_of g) g h.own h.graph_record in
    let nodes_fit = list_all-from_AllPass (vertex_fits g) g.vertices (λ k d below. (vertices k d below).fits) in
    let arcs_fit = list_all-from_AllPass (record_fits g) g.records (λ k d below. arc_tests g (get_or g.records k d) ∙ (arcs k d below).fits) in
    record {
      vertices_fit = at_most_passes (length g.vertices) most_vertices good.vertices;
      fields = rw (own.fields.fits, nodes_fit, arcs_fit) refl;
      writable = record {
        kinds = good.kinds;
        id = record { short = own.id.0; printable = own.id.1 };
        arcs_counted = own.few;
        records_counted = good.arcs;
        util = own.fields.values;
        vertices = λ k d below. vertex_saved g (get_or g.vertices k d) (vertices k d below);
        records = λ k d below. arc_saved g (get_or g.records k d) (arcs k d below);
      };
    }

-- so what is read of records passes the check where its lists are sound, and is refused for nothing else
pub read_is_checked : (lines : List (List ℕ)) (opening : Opening) (found : Found GraphData) → opening_of lines ≡ Some opening → graph_of_records opening ≡ Some found
    → checked found.value ≡ (if is_sound found.value then Ok found.value else Err Syntax)
read_is_checked lines opening found opens says =
    let o = opening_found lines opening opens in
    let r = (finds_records opening.head).found (text_of_lines opening.lines) found says in
    let h : CanBeChecked found.value = rw (sym r.made) (parts_can_be_checked r.value r.word (subst IsGoodHead r.says.counted (first_is_good o.1 opening.head o.3)) r.says.are) in
    rw (h.vertices_fit, h.fields) refl

-- a graph that is read can be saved
pub read_can_be_saved : (g : GraphData) (text : List ℕ) → graph_of_text text ≡ Ok g → CanBeSaved g
read_can_be_saved g text e =
    let (records, following, (opens, are), closed, sound) = restored_as text (Ok g) e in
    let h = parts_can_be_checked g (text_of_lines records) (first_is_good opens.first (head_of g) opens.first_says) are in
    record { graph = record { vertices_fit = h.vertices_fit; fields = h.fields; lists = sound }; writable = h.writable }
