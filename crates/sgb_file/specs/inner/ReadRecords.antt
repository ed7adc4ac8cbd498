-- The records of a file, as they are read: the graph's, the vertices' and the arcs' [GB_SAVE, restore_graph].
use Rattle.std.specs.Prelude.{ℕ, List, [], ◌∷◌, codes, Option, Some, None, option_map, unwrap_or, ◌==◌, if◌then◌else◌}
use Rattle.sgb_text.proofs.Findings.{Found, found_as, after_prefix, all_at, given}
use Rattle.sgb_graph.specs.Graphs.{GraphData}
use Rattle.sgb_graph.specs.Ids.{most_id_bytes}
use Rattle.sgb_graph.specs.Sound.{vertex_kinds, arc_kinds, graph_kinds}
use Rattle.sgb_graph.specs.declared.fields.Kind.{Kind}
use Rattle.sgb_graph.specs.declared.fields.Kind.TheVariants.{Z, I, V, S, A}
use Rattle.sgb_graph.specs.declared.fields.Util.{Util}
use Rattle.sgb_graph.specs.declared.fields.Util.TheVariants.{Nothing, Int, Vertex as VertexField, Str, Chain}
use Rattle.sgb_graph.specs.declared.fields.Vertex.{Vertex}
use Rattle.sgb_graph.specs.declared.fields.ArcRec.{ArcRec}
use Rattle.sgb_file.specs.Fields.{most_number_digits}
use Rattle.sgb_file.specs.inner.FieldValues.{number_of}
use Rattle.sgb_file.specs.inner.Heads.{Counts, Head}
use Rattle.sgb_file.specs.inner.ReadFields.{string_at, plain_at, field_at}

-- what follows a comma; the line may end after it, and the record then goes on with the next line
abbrev pub after_comma : List ℕ → Option (List ℕ)
after_comma text = option_map (λ rest. unwrap_or (after_prefix (codes "\n") rest) rest) (after_prefix (codes ",") text)

-- the fields of these kinds to the end of the record, each after a comma; the record ends with its line
unfoldable pub more_fields_at : Counts → List Kind → List ℕ → Option (Found (List Util))
more_fields_at counts [] text = option_map (λ rest. record { value = []; rest = rest }) (after_prefix (codes "\n") text)
more_fields_at counts (Z ∷ kinds) text = found_as (λ fields. Nothing ∷ fields) (more_fields_at counts kinds text)
more_fields_at counts (kind ∷ kinds) text =
    given (after_comma text) (λ start.
    given (field_at counts kind start) (λ field.
    found_as (λ fields. field.value ∷ fields) (more_fields_at counts kinds field.rest)))

-- the record whose first field is of this kind, and whose others are of these
abbrev pub record_at : Counts → Kind → List Kind → List ℕ → Option (Found (List Util))
record_at counts kind kinds text =
    given (field_at counts kind text) (λ field.
    found_as (λ fields. field.value ∷ fields) (more_fields_at counts kinds field.rest))

-- the graph's record: the id, the numbers of vertices and of arcs, the graph's fields. The graph has no
-- vertices and no arc records yet
abbrev pub graph_record_at : Head → List ℕ → Option (Found GraphData)
graph_record_at head text =
    given (string_at most_id_bytes text) (λ id.
    given (after_comma id.rest) (λ second.
    given (plain_at (number_of most_number_digits) second) (λ n.
    given (after_comma n.rest) (λ third.
    given (plain_at (number_of most_number_digits) third) (λ m.
    given (more_fields_at head.counts (graph_kinds head.kinds) m.rest) (λ util.
    if n.value == head.counts.vertices
    then Some (record {
      value = record { id = id.value; m = m.value; kinds = head.kinds; util = util.value; vertices = []; records = [] };
      rest = util.rest;
    })
    else None))))))

-- the vertex of a record's fields: its name, its first arc record, its utility fields
abbrev pub vertex_of_fields : List Util → Option Vertex
vertex_of_fields (Str name ∷ Chain arcs ∷ util) = Some (record { name = name; arcs = arcs; util = util })
vertex_of_fields _ = None

-- a vertex's record
abbrev pub vertex_record_at : Head → List ℕ → Option (Found Vertex)
vertex_record_at head text =
    given (record_at head.counts S (A ∷ vertex_kinds head.kinds) text) (λ fields.
    option_map (λ v. record { value = v; rest = fields.rest }) (vertex_of_fields fields.value))

-- the arc record of a record's fields: its tip, its next one, its length, its utility fields
abbrev pub arc_of_fields : List Util → Option ArcRec
arc_of_fields (VertexField tip ∷ Chain next ∷ Int len ∷ a ∷ b ∷ []) =
    Some (record { tip = tip; next = next; len = len; a = a; b = b })
arc_of_fields _ = None

-- an arc's record
abbrev pub arc_record_at : Head → List ℕ → Option (Found ArcRec)
arc_record_at head text =
    given (record_at head.counts V (A ∷ I ∷ arc_kinds head.kinds) text) (λ fields.
    option_map (λ r. record { value = r; rest = fields.rest }) (arc_of_fields fields.value))

-- what the file's records say, from the graph's to the last arc's
abbrev pub records_at : Head → List ℕ → Option (Found GraphData)
records_at head text =
    given (graph_record_at head text) (λ graph.
    given (after_prefix (codes "* Vertices\n") graph.rest) (λ second.
    given (all_at (vertex_record_at head) head.counts.vertices second) (λ vertices.
    given (after_prefix (codes "* Arcs\n") vertices.rest) (λ third.
    found_as (λ records. record graph.value { vertices = vertices.value; records = records })
    (all_at (arc_record_at head) head.counts.arcs third)))))
