-- Records and their texts: a record's reader finds exactly a record of these values.
use Rattle.sgb_vec.proofs.Common.{arith, sym, subst, inl, inr, ◌⊎◌, ◌≡◌, ◌==◌, ℕ, List, [], ◌∷◌, ◌++◌, length, codes, Option, Some, None, option_map, if◌then◌else◌, refl, Decides-eqb, nat_tests}
use Rattle.sgb_text.specs.Languages.{As, Each, Fixed, Then}
use Rattle.sgb_text.proofs.Readers.{Anything}
use Rattle.sgb_text.proofs.Finders.{AreSoMany, Finds, From, StandsIn, found_with, rest_alone, finds_all, finds_as, finds_cons, finds_fixed, finds_from, finds_is, finds_prefix, finds_then, tested}
use Rattle.sgb_text.proofs.Findings.{Found, prefix_is, was_let_through, given}
use Rattle.sgb_graph.specs.Graphs.{GraphData}
use Rattle.sgb_graph.specs.Growth.{graph_data}
use Rattle.sgb_graph.specs.Ids.{most_id_bytes}
use Rattle.sgb_graph.specs.Sound.{vertex_kinds, arc_kinds, graph_kinds}
use Rattle.sgb_graph.specs.declared.fields.Kind.{Kind}
use Rattle.sgb_graph.specs.declared.fields.Kind.TheVariants.{Z, I, V, S, A}
use Rattle.sgb_graph.specs.declared.fields.Util.{Util}
use Rattle.sgb_graph.specs.declared.fields.Util.TheVariants.{Nothing}
use Rattle.sgb_graph.specs.declared.fields.Vertex.{Vertex}
use Rattle.sgb_graph.specs.declared.fields.ArcRec.{ArcRec}
use Rattle.sgb_file.specs.Fields.{most_number_digits, IsStringText, IsNumberText}
use Rattle.sgb_file.specs.inner.FieldValues.{number_of}
use Rattle.sgb_file.specs.inner.Heads.{Counts, Head, head_of, IsVertexAfter, IsArcAfter, IsGraphAfter, IsRecordAmong}
use Rattle.sgb_file.specs.inner.ReadFields.{plain_at}
use Rattle.sgb_file.specs.Files.{IsComma, AreMoreFields, IsGraphRecord, AreRecordsOf}
use Rattle.sgb_file.specs.inner.ReadRecords.{after_comma, more_fields_at, record_at, graph_record_at, vertex_of_fields, vertex_record_at, arc_of_fields, arc_record_at, records_at}
use Rattle.sgb_file.proofs.FieldReading.{Ends}
use Rattle.sgb_file.proofs.SavedGraphs.{fields_of_vertex, fields_of_arc}
use Rattle.sgb_file.proofs.FieldsAndTexts.{GoesOn, finds_said, finds_string, finds_field, number_is_plain, digits_again, digits_found}

-- a comma and perhaps a newline stand before what follows the comma
comma_before : (text start : List ℕ) → after_comma text ≡ Some start → (text ≡ codes "," ++ start) ⊎ (text ≡ codes ",\n" ++ start)
comma_before text start e = grind (arith, prefix_is)

comma_found : (text start : List ℕ) → after_comma text ≡ Some start → StandsIn rest_alone IsComma text start
comma_found text start e = elim (comma_before text start e) [
  | inl p ↦ record { value = tt; word = codes ","; rest = start; says = inl (refl, refl); parts = p; made = refl }
  | inr p ↦ record { value = tt; word = codes ",\n"; rest = start; says = inr (refl, refl); parts = p; made = refl }
]

finds_comma : Finds rest_alone Ends GoesOn IsComma after_comma
finds_comma = grind (arith, comma_found)

-- the fields after the first of a record
finds_more : (counts : Counts) (kinds : List Kind) → Finds found_with Ends Anything (AreMoreFields counts.vertices counts.arcs kinds) (more_fields_at counts kinds)
unfolding more_fields_at
finds_more counts [] = finds_fixed [] (codes "\n") (λ more. refl)
finds_more counts (Z ∷ kinds) = finds_as (λ (others : List Util). Nothing ∷ others) (finds_more counts kinds)
finds_more counts (kind ∷ kinds) = finds_then _ finds_comma (λ none. finds_cons (finds_field counts kind (λ z. absurd cc)) (finds_more counts kinds))

-- a record of fields is read, and what is made of them
finds_record : {X : Type 0} (counts : Counts) (kind : Kind) (kinds : List Kind) → (kind ≡ Z → ⊥) → (make : List Util → Option X) (fields_of : X → List Util)
    → ((us : List Util) (x : X) → make us ≡ Some x → us ≡ fields_of x) → ((x : X) → make (fields_of x) ≡ Some x)
    → Finds found_with Anything Anything (λ whole x. IsRecordAmong counts kind kinds whole (fields_of x)) (λ text. given (record_at counts kind kinds text) (λ fields. option_map (λ x. record { value = x; rest = fields.rest }) (make fields.value)))
finds_record counts kind kinds used make fields_of are made =
    finds_is (λ text h. tt) (λ whole x h. subst (λ us. IsRecordAmong counts kind kinds whole us) (are h.0 x h.2) h.1) (λ whole x h. (fields_of x, h, made x))
    (finds_from make found_with _ (λ us rest. refl) (finds_cons (finds_field counts kind used) (finds_more counts kinds)))

-- vertices
are_of_vertex : (us : List Util) (v : Vertex) → vertex_of_fields us ≡ Some v → us ≡ fields_of_vertex v
are_of_vertex us v e = grind (arith, fields_of_vertex)

finds_vertex : (head : Head) → Finds found_with Anything Anything (IsVertexAfter head) (vertex_record_at head)
finds_vertex head = finds_record head.counts S (A ∷ vertex_kinds head.kinds) (λ z. absurd cc) vertex_of_fields fields_of_vertex are_of_vertex (λ v. refl)

-- arcs
are_of_arc : (us : List Util) (r : ArcRec) → arc_of_fields us ≡ Some r → us ≡ fields_of_arc r
are_of_arc us r e = grind (arith, fields_of_arc)

finds_arc : (head : Head) → Finds found_with Anything Anything (IsArcAfter head) (arc_record_at head)
finds_arc head = finds_record head.counts V (A ∷ I ∷ arc_kinds head.kinds) (λ z. absurd cc) arc_of_fields fields_of_arc are_of_arc (λ r. refl)

-- the graph's record, with this last part
abbrev GraphWord : {X : Type 0} → (List ℕ → ℕ → ℕ → List ℕ → X → Type 0) → List ℕ → X → Type 0
GraphWord Last = Then (IsStringText most_id_bytes) (λ id. Then IsComma (λ none. Then IsNumberText (λ n. Then IsComma (λ none. Then IsNumberText (λ m. Last id n m)))))

other_last : {X Y : Type 0} (Last : List ℕ → ℕ → ℕ → List ℕ → X → Type 0) (Other : List ℕ → ℕ → ℕ → List ℕ → Y → Type 0) (x : X) (y : Y)
    → ((id : List ℕ) (n m : ℕ) (text : List ℕ) → Last id n m text x → Other id n m text y) → (whole : List ℕ) → GraphWord Last whole x → GraphWord Other whole y
other_last Last Other x y turn whole h = grind (arith)

-- as its reader has it: what is made of the parts, where there are as many vertices as are counted
abbrev graph_of_parts : Head → List ℕ → ℕ → ℕ → List Util → Option GraphData
graph_of_parts head id n m util = if n == head.counts.vertices then Some (graph_data id m head.kinds util [] []) else None

abbrev GraphMade : Head → List ℕ → ℕ → ℕ → List ℕ → GraphData → Type 0
GraphMade head id n m = From (graph_of_parts head id n m) (AreMoreFields head.counts.vertices head.counts.arcs (graph_kinds head.kinds))

-- and as the file has it: what is said
abbrev GraphSaid : Head → List ℕ → ℕ → ℕ → List ℕ → List ℕ × ℕ × ℕ × List Util → Type 0
GraphSaid head id n m = As (λ util. (id, n, m, util)) (AreMoreFields head.counts.vertices head.counts.arcs (graph_kinds head.kinds))

finds_number : Finds found_with GoesOn Ends IsNumberText (plain_at (number_of most_number_digits))
finds_number = finds_said (number_of most_number_digits) (number_is_plain most_number_digits) (digits_found most_number_digits) (digits_again most_number_digits)

finds_graph : (head : Head) → Finds found_with GoesOn Anything (GraphWord (GraphMade head)) (graph_record_at head)
finds_graph head =
    finds_then _ (finds_string most_id_bytes) (λ id. finds_then _ finds_comma (λ none. finds_then _ finds_number (λ n. finds_then _ finds_comma (λ none. finds_then _ finds_number (λ m.
    finds_from (graph_of_parts head id n m) found_with _ (λ util rest. tested found_with (n == head.counts.vertices) (graph_data id m head.kinds util [] []) rest)
    (finds_more head.counts (graph_kinds head.kinds)))))))

-- it has as many vertices as are counted, and the graph has none of them yet
is_bare : (head : Head) (n : ℕ) (id : List ℕ) (m : ℕ) (util : List Util) (g : GraphData) → graph_of_parts head id n m util ≡ Some g → (n ≡ head.counts.vertices) × (graph_data id m head.kinds util [] [] ≡ g)
is_bare head n id m util g e = grind (arith, was_let_through, Decides-eqb)

pub starts_bare : (head : Head) (text rest : List ℕ) (g : GraphData) → graph_record_at head text ≡ Some (record { value = g; rest = rest }) → ([] ≡ g.vertices) × ([] ≡ g.records)
starts_bare head text rest g e = grind (arith, finds_graph, is_bare, Found)

made_kinds : (head : Head) (bare : GraphData) (whole : List ℕ) → GraphWord (GraphMade head) whole bare → bare.kinds ≡ head.kinds
made_kinds head bare whole h = grind (arith, is_bare)

graph_from : (head : Head) (bare : GraphData) (vertices : List Vertex) (records : List ArcRec) (whole : List ℕ) → length vertices ≡ head.counts.vertices
    → GraphWord (GraphMade head) whole bare → IsGraphAfter head whole (record bare { vertices = vertices; records = records })
graph_from head bare vertices records whole count h =
    other_last (GraphMade head) (GraphSaid head) bare (bare.id, length vertices, bare.m, bare.util) (λ id n m text last.
    let t = is_bare head n id m last.0 bare last.2 in (last.0, last.1, rw (sym t.1, count, t.0) refl)) whole h

graph_into : (g : GraphData) (whole : List ℕ) → IsGraphRecord g whole → GraphWord (GraphMade (head_of g)) whole (record g { vertices = []; records = [] })
graph_into g whole h =
    other_last (GraphSaid (head_of g)) (GraphMade (head_of g)) (g.id, length g.vertices, g.m, g.util) (record g { vertices = []; records = [] })
    (λ id k m text last. (last.0, last.1, grind (arith, nat_tests, last))) whole h

-- the records of a graph; the first line that they are read with says what the graph has
pub record AreCounted (head : Head) (whole : List ℕ) (g : GraphData) : Type 0 where
  pub counted : head ≡ head_of g
  pub are : AreRecordsOf g whole

-- the same as their reader has them, section after section
abbrev RecordsWord : Head → List ℕ → GraphData → Type 0
RecordsWord head =
    Then (GraphWord (GraphMade head)) (λ own. Then (Fixed {V = Unit {0}} tt (codes "* Vertices\n")) (λ none. Then (AreSoMany (IsVertexAfter head) head.counts.vertices) (λ vertices.
    Then (Fixed {V = Unit {0}} tt (codes "* Arcs\n")) (λ none. As (λ records. record own { vertices = vertices; records = records }) (AreSoMany (IsArcAfter head) head.counts.arcs)))))

records_from : (head : Head) (whole : List ℕ) (g : GraphData) → RecordsWord head whole g → AreCounted head whole g
records_from head whole g (own, rest, bare, start, own_says, (title, body, none, parts, named, (vertices, last, vs, middle, are, (other, arcs, nothing, end, also, (rs, said, made))))) =
    let full = record bare { vertices = vs; records = rs } in
    let counted : head ≡ head_of full = rw (made_kinds head bare own own_says, are.0, said.0) refl in
    let says = λ (x : Head). Each (IsVertexAfter x) vertices vs × Each (IsArcAfter x) arcs rs × IsGraphAfter x own full in
    let all = subst says counted (are.1, said.1, graph_from head bare vs rs own are.0 own_says) in
    rw made (record {
      counted = counted;
      are = record { own = own; vertices = vertices; arcs = arcs; graph_record = all.2; vertex_records = all.0; arc_records = all.1; parts = cc (named.0, also.0) };
    })

records_into : (g : GraphData) (whole : List ℕ) → AreRecordsOf g whole → RecordsWord (head_of g) whole g
records_into g whole h =
    let third = codes "* Arcs\n" ++ h.arcs in
    let second = h.vertices ++ third in (
      h.own,
      codes "* Vertices\n" ++ second,
      record g { vertices = []; records = [] },
      h.parts,
      graph_into g h.own h.graph_record,
      (codes "* Vertices\n", second, tt, refl, (refl, refl), (h.vertices, third, g.vertices, refl, (refl, h.vertex_records), (codes "* Arcs\n", h.arcs, tt, refl, (refl, refl), (g.records, (refl, h.arc_records), refl)))),
    )

-- the records of a file are read
pub finds_records : (head : Head) → Finds found_with Anything Anything (AreCounted head) (records_at head)
finds_records head =
    finds_is (λ text h. tt) (records_from head) (λ whole g h. subst (λ (x : Head). RecordsWord x whole g) (sym h.counted) (records_into g whole h.are))
    (finds_then _ (finds_graph head) (λ own. finds_then _ (finds_prefix (codes "* Vertices\n") (λ more. tt)) (λ none.
    finds_then _ (finds_all (vertex_record_at head) (IsVertexAfter head) (finds_vertex head) head.counts.vertices) (λ vertices. finds_then _ (finds_prefix (codes "* Arcs\n") (λ more. tt)) (λ none.
    finds_as (λ (records : List ArcRec). record own { vertices = vertices; records = records }) (finds_all (arc_record_at head) (IsArcAfter head) (finds_arc head) head.counts.arcs))))))
