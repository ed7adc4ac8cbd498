-- What a file's first line says, and what stands after one with what it says [GB_SAVE, restore_graph].
use Rattle.std.specs.Prelude.{◌≡◌, ℕ, List, [], ◌∷◌, ◌++◌, length, slice_index, IsFalse}
use Rattle.std.specs.Char.{is_ascii_digit}
use Rattle.sgb_text.specs.Languages.{As, Cons, Then}
use Rattle.sgb_graph.specs.Graphs.{GraphData}
use Rattle.sgb_graph.specs.Ids.{most_id_bytes}
use Rattle.sgb_graph.specs.Sound.{vertex_kinds, arc_kinds, graph_kinds}
use Rattle.sgb_graph.specs.declared.fields.Kind.{Kind}
use Rattle.sgb_graph.specs.declared.fields.Kind.TheVariants.{I, V, S, A}
use Rattle.sgb_graph.specs.declared.fields.Util.{Util}
use Rattle.sgb_graph.specs.declared.fields.Util.TheVariants.{Int, Vertex as VertexField, Str, Chain}
use Rattle.sgb_graph.specs.declared.fields.Vertex.{Vertex}
use Rattle.sgb_graph.specs.declared.fields.ArcRec.{ArcRec}
use Rattle.sgb_file.specs.FileLines.{text_of_lines}
use Rattle.sgb_file.specs.Fields.{IsNumberText, IsStringText}
use Rattle.sgb_file.specs.Files.{AreMoreFields, AreRecordsOf, IsComma, IsFieldText, IsFirstLine, Opens}

-- how many vertices and arc records a file has
pub record Counts : Type 0 where
  pub vertices : ℕ
  pub arcs : ℕ

-- what a file's first line says: the kinds of the utility fields, the vertices and the arc records
pub record Head : Type 0 where
  pub kinds : List Kind
  pub counts : Counts

-- what the first line of a graph's file says
abbrev pub head_of : GraphData → Head
head_of g = record { kinds = g.kinds; counts = record { vertices = length g.vertices; arcs = length g.records } }

-- a first line that says this
abbrev pub SaysHead : Head → List ℕ → Type 0
SaysHead head line = IsFirstLine head.kinds head.counts.vertices head.counts.arcs line

-- a text that opens with a first line that says this
abbrev pub OpensWith : List ℕ → Head → List (List ℕ) → Type 0
OpensWith text head lines = Opens text head.kinds head.counts.vertices head.counts.arcs lines

-- a record in a file with so many vertices and arc records
abbrev pub IsRecordAmong : Counts → Kind → List Kind → List ℕ → List Util → Type 0
IsRecordAmong counts kind kinds = Cons (IsFieldText counts.vertices counts.arcs kind) (AreMoreFields counts.vertices counts.arcs kinds)

-- the records of vertices, of arcs and of a graph after a first line that says this
abbrev pub IsVertexAfter : Head → List ℕ → Vertex → Type 0
IsVertexAfter head text v = IsRecordAmong head.counts S (A ∷ vertex_kinds head.kinds) text (Str v.name ∷ Chain v.arcs ∷ v.util)

abbrev pub IsArcAfter : Head → List ℕ → ArcRec → Type 0
IsArcAfter head text r =
    IsRecordAmong head.counts V (A ∷ I ∷ arc_kinds head.kinds) text
    (VertexField r.tip ∷ Chain r.next ∷ Int r.len ∷ r.a ∷ r.b ∷ [])

abbrev pub IsGraphAfter : Head → List ℕ → GraphData → Type 0
IsGraphAfter head text g =
    Then {W = List ℕ × ℕ × ℕ × List Util} (IsStringText most_id_bytes) (λ id. Then IsComma (λ none. Then IsNumberText (λ n. Then IsComma (λ none. Then IsNumberText (λ m.
    As (λ util. (id, n, m, util)) (AreMoreFields head.counts.vertices head.counts.arcs (graph_kinds head.kinds))))))) text (g.id, length g.vertices, g.m, g.util)

-- lines are those of the records of a graph that a first line counts, and these lines after them
pub record AreRecordLines (head : Head) (g : GraphData) (records following lines : List (List ℕ)) : Type 0 where
  pub counted : head ≡ head_of g
  pub say : AreRecordsOf g (text_of_lines records)
  pub parts : lines ≡ records ++ following

-- a text that does not begin with a digit
abbrev pub BeginsWithNoDigit : List ℕ → Type 0
BeginsWithNoDigit text = IsFalse (is_ascii_digit (slice_index text 0))
