-- Lemmas on whole files: no newline is in the lines of a graph, no space is at their ends, and what is written is a file of it.
use Rattle.sgb_vec.proofs.Common.{ap, ◌∙◌, append_assoc, append-nil, arith, rules, ◌≡◌, ℕ, ◌^◌, ◌<◌, true, not, List, [], ◌∷◌, ◌++◌, length, codes, decimal, filter, refl, map, All, list_all, flat_map, and_from, and_parts, flat_map-append, All-nil, All-head, All-tail, mod_below, decimal_is_IsNumeral, list_all-append, AllPass-from_list_all, list_all-from_AllPass}
use Rattle.sgb_graph.specs.Graphs.{GraphData}
use Rattle.sgb_graph.specs.declared.fields.Kind.TheVariants.{S, V, Z}
use Rattle.sgb_graph.specs.declared.fields.Util.TheVariants.{Int, Vertex as VertexField, Str, Chain}
use Rattle.sgb_graph.specs.declared.fields.Vertex.{Vertex}
use Rattle.sgb_graph.specs.declared.fields.ArcRec.{ArcRec}
use Rattle.sgb_file.specs.FileLines.{clean_lines, text_of_lines}
use Rattle.sgb_file.specs.Checksum.{checksum_prime, weighted_sum, has_star, checksum_of_lines}
use Rattle.sgb_file.specs.Fields.{most_number_digits}
use Rattle.sgb_file.specs.Files.{IsComment, IsChecksumLine, IsVertexRecord, IsArcRecord, AreRecordsOf, IsFileOf}
use Rattle.sgb_file.specs.inner.Heads.{head_of, SaysHead, Counts}
use Rattle.sgb_file.specs.Saving.{record_lines, middle_lines, text_of_graph, field_texts}
use Rattle.sgb_file.specs.inner.SavedLines.{graph_texts, vertex_texts, arc_texts, head_line, checksum_line}
use Rattle.sgb_file.specs.Saved.{CanBeSaved, ValueCanBeSaved}
use Rattle.sgb_file.proofs.LineLemmas.{is_line, list_all-join, clean_lines_read, is_one_line, is_within_line, ends_well, ends_with}
use Rattle.sgb_file.proofs.FieldReading.{number_read, decimal_is_line, quoted_is_line}
use Rattle.sgb_file.proofs.WrittenRecords.{fields_stand, graph_written, all_written, field_of}
use Rattle.sgb_file.proofs.SavedGraphs.{IsReady, VertexFits, ArcFits, ready, AreSmall, FieldsFit, fields_of_vertex, fields_of_arc}
use Rattle.sgb_file.proofs.FieldsAndTexts.{digits_found}
use Rattle.sgb_vec.proofs.Lists.{All-flat_map}
use Rattle.sgb_graph.specs.Sound.{util_fits, utils_fit, graph_kinds}
use Rattle.sgb_graph.specs.declared.fields.Kind.{Kind}
use Rattle.sgb_graph.specs.declared.fields.Util.{Util}
use Rattle.sgb_graph.specs.Kinds.{letter_of}
use Rattle.sgb_file.proofs.LaidOutText.{record_are_lines}

-- the texts of a field are lines
value_is_line : (counts : Counts) → AreSmall counts → (kind : Kind) (u : Util) → util_fits counts.vertices counts.arcs kind u ≡ true → ValueCanBeSaved u → list_all is_line (field_texts u) ≡ true
value_is_line counts small Z u fits h = grind arith
value_is_line counts small kind u fits h = grind (arith, and_from, field_of counts small kind u (λ z. absurd cc) fits h)

fields_are_lines : (counts : Counts) → AreSmall counts → (kinds : List Kind) (utils : List Util) → utils_fit counts.vertices counts.arcs kinds utils ≡ true → All ValueCanBeSaved utils → list_all is_line (flat_map field_texts utils) ≡ true
fields_are_lines counts small [] [] fits h = refl
fields_are_lines counts small (kind ∷ kinds) (u ∷ utils) fits h = grind (arith, and_parts, list_all-join, is_line, value_is_line, All-head, All-tail, fields_are_lines counts small kinds utils (and_parts (util_fits counts.vertices counts.arcs kind u) (utils_fit counts.vertices counts.arcs kinds utils) fits).1 (All-tail ValueCanBeSaved u utils h))
fields_are_lines counts small _ _ fits h = absurd cc

-- the lines of the record of fields are lines, and those of the graph's
fields_lines : (counts : Counts) → AreSmall counts → (kinds : List Kind) (us : List Util) → FieldsFit counts kinds us → list_all is_line (record_lines (flat_map field_texts us)) ≡ true
fields_lines counts small kinds us h = record_are_lines (flat_map field_texts us) (fields_are_lines counts small kinds us h.fits h.values)

graph_lines : (g : GraphData) → IsReady g → list_all is_line (record_lines (graph_texts g)) ≡ true
graph_lines g h =
    let n_is = decimal_is_line (length g.vertices) (omega (arith, h.vertices_few)) in
    let m_is = decimal_is_line g.m (omega (arith, h.arcs_few)) in
    search (rules, fields_are_lines, record_are_lines, quoted_is_line, head_of, graph_kinds, graph_texts, n_is, m_is)

-- lines of each of several records
each_lines : {X : Type 0} (lines_of : X → List (List ℕ)) (IsGood : X → Type 0) → ((x : X) → IsGood x → list_all is_line (lines_of x) ≡ true) → (xs : List X) → All IsGood xs → list_all is_line (flat_map lines_of xs) ≡ true
each_lines lines_of IsGood each xs h = search (rules, list_all-from_AllPass, All-flat_map, AllPass-from_list_all)

-- the lines between the first and the last are lines
pub middle_are_lines : (g : GraphData) → IsReady g → list_all is_line (middle_lines g) ≡ true
unfolding ends_well
middle_are_lines g h =
    let arcs = each_lines (λ r. record_lines (arc_texts r)) (ArcFits g) (λ r fits. fields_lines _ h.small _ (fields_of_arc r) fits) g.records h.records in
    let nodes = each_lines (λ v. record_lines (vertex_texts v)) (VertexFits g) (λ v fits. fields_lines _ h.small _ (fields_of_vertex v) fits) g.vertices h.vertices in
    simp (list_all-join, is_line, graph_lines, arcs, nodes)

pub ends_with_text : (x y : List ℕ) → 0 < length y → ends_well y ≡ true → ends_well (x ++ y) ≡ true
ends_with_text x [] some h = absurd (omega (arith, some))
ends_with_text x (b ∷ y) some h = ends_with x b y h

-- letters of kinds have no newline
letters_in_line : (kinds : List Kind) → is_one_line (map letter_of kinds) ≡ true
letters_in_line [] = refl
letters_in_line (kind ∷ kinds) = grind (arith, letters_in_line kinds, kind)

decimal_in_line : (n : ℕ) → n < 2 ^ 64 → is_one_line (decimal n) ≡ true
decimal_in_line n h = grind (arith, and_parts, decimal_is_line n h)

-- the first line is a line
pub head_is_line : (g : GraphData) → length g.vertices < 2 ^ 64 → length g.records < 2 ^ 64 → is_line (head_line g) ≡ true
unfolding ends_well
head_is_line g below few = simp (letters_in_line, decimal_in_line, and_from, is_one_line, ends_well, list_all-append, ends_with)

-- a checksum's line is a line
pub checksum_is_line : (c : ℕ) → c < 2 ^ 64 → is_line (codes "* Checksum " ++ decimal c) ≡ true
checksum_is_line c h =
    grind (arith, and_from, and_parts, list_all-join is_within_line (codes "* Checksum ") (decimal c), decimal_is_line c h, ends_with_text (codes "* Checksum ") (decimal c), decimal_is_IsNumeral c h)

-- the text of the lines of several records
text_of_all : {X : Type 0} (lines_of : X → List (List ℕ)) (xs : List X) → text_of_lines (flat_map lines_of xs) ≡ flat_map (λ x. text_of_lines (lines_of x)) xs
text_of_all lines_of [] = refl
text_of_all lines_of (x ∷ xs) = grind (arith, flat_map-append, text_of_all lines_of xs)

abbrev vertex_text : Vertex → List ℕ
vertex_text v = text_of_lines (record_lines (vertex_texts v))

abbrev arc_text : ArcRec → List ℕ
arc_text r = text_of_lines (record_lines (arc_texts r))

-- the text between the first line and the last is the records of the graph
records_written : (g : GraphData) → IsReady g → AreRecordsOf g (text_of_lines (middle_lines g))
records_written g h = record {
  own = text_of_lines (record_lines (graph_texts g));
  vertices = flat_map vertex_text g.vertices;
  arcs = flat_map arc_text g.records;
  graph_record = graph_written g h;
  vertex_records = all_written vertex_text (IsVertexRecord g) (VertexFits g) (λ v fits. fields_stand _ h.small S _ (Str v.name) (Chain v.arcs ∷ v.util) (λ z. absurd cc) fits) g.vertices h.vertices;
  arc_records = all_written arc_text (IsArcRecord g) (ArcFits g) (λ r fits. fields_stand _ h.small V _ (VertexField r.tip) (Chain r.next ∷ Int r.len ∷ r.a ∷ r.b ∷ []) (λ z. absurd cc) fits) g.records h.records;
  parts = simp (flat_map-append, text_of_all, append_assoc);
}

-- the first line is one
first_written : (g : GraphData) → length g.kinds ≡ 14 → IsReady g → SaysHead (head_of g) (head_line g)
first_written g kinds h =
    let few = h.vertices_few in
    let says = λ (n : ℕ) (less : n < 10 ^ 18). digits_found most_number_digits (decimal n) n (number_read most_number_digits n (omega arith) less (omega (arith, less))) in
    (decimal (length g.vertices), decimal (length g.records), [], says (length g.vertices) (omega (arith, few)), says (length g.records) h.records_few, kinds, few, simp append_assoc)

-- the checksum is a number of 18 digits, and its line is one
checksum_small : (g : GraphData) → checksum_of_lines (middle_lines g) < 10 ^ 18
checksum_small g = grind (arith, mod_below (weighted_sum (text_of_lines (filter (λ line. not (has_star line)) (middle_lines g)))) checksum_prime)

checksum_written : (c : ℕ) → c < 10 ^ 18 → IsChecksumLine c (codes "* Checksum " ++ decimal c)
checksum_written c below = grind (arith, digits_found, number_read most_number_digits c, append-nil)

-- each line of the file is a line as it is written
all_lines : (g : GraphData) → IsReady g → list_all is_line (head_line g ∷ (middle_lines g ++ checksum_line g ∷ [])) ≡ true
all_lines g h =
    let sum = checksum_small g in
    grind (arith, sum, h.vertices_few, h.records_few, list_all-append, head_is_line g, checksum_is_line (checksum_of_lines (middle_lines g)), middle_are_lines g h)

-- what is written is a file of the graph, whatever follows it
pub written_is_file : (g : GraphData) (more : List ℕ) → CanBeSaved g → IsFileOf g (text_of_graph g ++ more)
written_is_file g more h =
    let is = ready g h in
    let following = checksum_line g ∷ clean_lines more in (
      middle_lines g,
      following,
      (
        record {
          comments = [];
          first = head_line g;
          parts = clean_lines_read (head_line g ∷ (middle_lines g ++ checksum_line g ∷ [])) more (all_lines g is)
              ∙ ap (λ ls. head_line g ∷ ls) (append_assoc (middle_lines g) (checksum_line g ∷ []) (clean_lines more));
          comments_are = All-nil IsComment;
          first_says = first_written g h.writable.kinds is;
        },
        records_written g is,
      ),
      (checksum_line g, clean_lines more, refl, checksum_written (checksum_of_lines (middle_lines g)) (checksum_small g)),
      h.graph.lists,
    )
