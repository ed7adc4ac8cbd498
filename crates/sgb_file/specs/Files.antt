-- When a text is a file of a graph [GB_SAVE]: what its lines are, and what stands for each value.
use Rattle.std.specs.Prelude.{◌≡◌, ◌⊎◌, ℕ, ◌<◌, ◌≤◌, List, [], ◌∷◌, ◌++◌, map, length, codes, All, IsTrue, IsFalse, slice_index}
use Rattle.std.specs.Char.{is_ascii_digit}
use Rattle.sgb_text.specs.Languages.{As, Cons, Each, Fixed, Or, Then}
use Rattle.sgb_vec.specs.Limits.{most_bytes, most_vertices}
use Rattle.sgb_graph.specs.Graphs.{GraphData}
use Rattle.sgb_graph.specs.Ids.{most_id_bytes}
use Rattle.sgb_graph.specs.Sound.{is_sound, vertex_kinds, arc_kinds, graph_kinds}
use Rattle.sgb_graph.specs.declared.fields.Kind.{Kind}
use Rattle.sgb_graph.specs.declared.fields.Kind.TheVariants.{Z, I, V, S, A}
use Rattle.sgb_graph.specs.declared.fields.Util.{Util}
use Rattle.sgb_graph.specs.declared.fields.Util.TheVariants.{Nothing, Int, Vertex as VertexField, Str, Chain}
use Rattle.sgb_graph.specs.declared.fields.Vertex.{Vertex}
use Rattle.sgb_graph.specs.declared.fields.ArcRec.{ArcRec}
use Rattle.sgb_graph.specs.Kinds.{letter_of}
use Rattle.sgb_file.specs.FileLines.{clean_lines, text_of_lines}
use Rattle.sgb_file.specs.Checksum.{has_star, checksum_of_lines}
use Rattle.sgb_file.specs.Fields.{IsIntegerText, IsNumberText, IsRecordNumberText, IsRefText, IsStringText}

-- the text of a field of this kind with this value, where there are n vertices and m arc records; there is none of kind Z
abbrev pub IsFieldText : ℕ → ℕ → Kind → List ℕ → Util → Type 0
IsFieldText n m I = As Int IsIntegerText
IsFieldText n m V = As VertexField (IsRefText n)
IsFieldText n m S = As Str (IsStringText most_bytes)
IsFieldText n m A = As Chain (IsRecordNumberText m)
IsFieldText n m Z = λ text value. ⊥

-- a comma, after which the line may end
abbrev pub IsComma : List ℕ → Unit {0} → Type 0
IsComma = Or (Fixed tt (codes ",")) (Fixed tt (codes ",\n"))

-- the texts of fields of these kinds, each after a comma, and a newline at the end; a field of kind Z has no text
abbrev pub AreMoreFields : ℕ → ℕ → List Kind → List ℕ → List Util → Type 0
AreMoreFields n m [] = Fixed [] (codes "\n")
AreMoreFields n m (Z ∷ kinds) = As (λ values. Nothing ∷ values) (AreMoreFields n m kinds)
AreMoreFields n m (kind ∷ kinds) = Then IsComma (λ none. Cons (IsFieldText n m kind) (AreMoreFields n m kinds))

-- a record in the file of a graph: the texts of a field of this kind and of more fields
abbrev pub IsRecordOf : GraphData → Kind → List Kind → List ℕ → List Util → Type 0
IsRecordOf g kind kinds =
    Cons (IsFieldText (length g.vertices) (length g.records) kind) (AreMoreFields (length g.vertices) (length g.records) kinds)

-- the record of a vertex: its name, its first arc record, its utility fields
abbrev pub IsVertexRecord : GraphData → List ℕ → Vertex → Type 0
IsVertexRecord g text v = IsRecordOf g S (A ∷ vertex_kinds g.kinds) text (Str v.name ∷ Chain v.arcs ∷ v.util)

-- the record of an arc: its tip, the next arc record, its length, its utility fields
abbrev pub IsArcRecord : GraphData → List ℕ → ArcRec → Type 0
IsArcRecord g text r = IsRecordOf g V (A ∷ I ∷ arc_kinds g.kinds) text (VertexField r.tip ∷ Chain r.next ∷ Int r.len ∷ r.a ∷ r.b ∷ [])

-- the record of a graph: its id, the numbers of its vertices and of its arcs, its utility fields
abbrev pub IsGraphRecord : GraphData → List ℕ → Type 0
IsGraphRecord g text =
    Then {W = List ℕ × ℕ × ℕ × List Util} (IsStringText most_id_bytes) (λ id. Then IsComma (λ none. Then IsNumberText (λ n. Then IsComma (λ none. Then IsNumberText (λ m.
    As (λ util. (id, n, m, util)) (AreMoreFields (length g.vertices) (length g.records) (graph_kinds g.kinds))))))) text (g.id, length g.vertices, g.m, g.util)

-- the records of a graph: its own, those of its vertices, and those of its arcs
pub record AreRecordsOf (g : GraphData) (text : List ℕ) : Type 0 where
  pub own : List ℕ
  pub vertices : List ℕ
  pub arcs : List ℕ
  pub graph_record : IsGraphRecord g own
  pub vertex_records : Each (IsVertexRecord g) vertices g.vertices
  pub arc_records : Each (IsArcRecord g) arcs g.records
  pub parts : text ≡ own ++ (codes "* Vertices\n" ++ (vertices ++ (codes "* Arcs\n" ++ arcs)))

-- a first line: these kinds of utility fields, so many vertices and arc records, then anything
abbrev pub IsFirstLine : List Kind → ℕ → ℕ → List ℕ → Type 0
IsFirstLine kinds n m line = (vertices arcs anything : List ℕ) × IsNumberText vertices n × IsNumberText arcs m
    × (length kinds ≡ 14) × (n ≤ most_vertices)
    × (line ≡ codes "* GraphBase graph (util_types " ++ (map letter_of kinds ++ (codes "," ++ (vertices ++ (codes "V," ++ (arcs ++ (codes "A)" ++ anything)))))))

-- a line that may stand before the first line: it begins with `*`, and is no first line
abbrev pub IsComment : List ℕ → Type 0
IsComment line = IsTrue (has_star line) × ((kinds : List Kind) (n m : ℕ) → IsFirstLine kinds n m line → ⊥)

-- a line with a checksum: this one; or one with a minus, of any number but 0, or of 0 where this one is 0; then no digit
abbrev pub IsChecksumLine : ℕ → List ℕ → Type 0
IsChecksumLine sum line =
    (digits anything : List ℕ) × (k : ℕ) × IsNumberText digits k × IsFalse (is_ascii_digit (slice_index anything 0))
    × (((k ≡ sum) × (line ≡ codes "* Checksum " ++ (digits ++ anything)))
    ⊎ (((0 < k) ⊎ (k ≡ sum)) × (line ≡ codes "* Checksum -" ++ (digits ++ anything))))

-- the lines of a text, without the spaces at their ends, are comments, a first line, and these lines after it
pub record Opens (text : List ℕ) (kinds : List Kind) (n m : ℕ) (lines : List (List ℕ)) : Type 0 where
  pub comments : List (List ℕ)
  pub first : List ℕ
  pub parts : clean_lines text ≡ comments ++ first ∷ lines
  pub comments_are : All IsComment comments
  pub first_says : IsFirstLine kinds n m first

-- a text has comments, a first line, the records of the graph that this line counts, and these lines after them
abbrev pub HasRecords : List ℕ → GraphData → List (List ℕ) → List (List ℕ) → Type 0
HasRecords text g records following =
    Opens text g.kinds (length g.vertices) (length g.records) (records ++ following) × AreRecordsOf g (text_of_lines records)

-- the lines after records begin with a line with their checksum
abbrev pub IsClosed : List (List ℕ) → List (List ℕ) → Type 0
IsClosed records following =
    (last : List ℕ) × (others : List (List ℕ)) × (following ≡ last ∷ others) × IsChecksumLine (checksum_of_lines records) last

-- the text is a file of the graph: its records stand there, a line with their checksum comes next, and its lists are sound
abbrev pub IsFileOf : GraphData → List ℕ → Type 0
IsFileOf g text = (records following : List (List ℕ)) × HasRecords text g records following × IsClosed records following × IsTrue (is_sound g)
