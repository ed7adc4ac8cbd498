-- Parts with the vertices or the arc records that a text begins with.
use Rattle.std.specs.Prelude.{◌≡◌, ◌++◌, ℕ, List, [], ◌∷◌, codes, Option, Some, option_map}
use Rattle.sgb_text.proofs.Findings.{Found, after_prefix, found_as, all_at, given}
use Rattle.sgb_graph.specs.Graphs.{GraphData}
use Rattle.sgb_graph.specs.Parts.{with_record, with_vertex}
use Rattle.sgb_graph.specs.Sound.{vertex_kinds}
use Rattle.sgb_graph.specs.declared.fields.Kind.{Kind}
use Rattle.sgb_graph.specs.declared.fields.Kind.TheVariants.{I, V, S, A}
use Rattle.sgb_graph.specs.declared.fields.Vertex.{Vertex}
use Rattle.sgb_graph.specs.declared.fields.ArcRec.{ArcRec}
use Rattle.sgb_file.specs.inner.Heads.{Counts, Head}
use Rattle.sgb_file.specs.inner.ReadFields.{field_at}
use Rattle.sgb_file.specs.inner.ReadRecords.{arc_of_fields, arc_record_at, more_fields_at, vertex_of_fields, vertex_record_at}
use Rattle.sgb_file.specs.inner.Found.{next_field_at}

-- the parts with these vertices, or these arc records, after those that they have
abbrev pub with_vertices : GraphData → List Vertex → GraphData
with_vertices parts vs = record parts { vertices = parts.vertices ++ vs }

abbrev pub with_records : GraphData → List ArcRec → GraphData
with_records parts rs = record parts { records = parts.records ++ rs }

-- the parts with so many vertices after those that they have, whose records a text begins with
abbrev pub vertices_at : Head → GraphData → ℕ → List ℕ → Option (Found GraphData)
vertices_at head parts n text = found_as (with_vertices parts) (all_at (vertex_record_at head) n text)

-- the parts with so many arc records after those that they have, whose records a text begins with
abbrev pub arcs_at : Head → GraphData → ℕ → List ℕ → Option (Found GraphData)
arcs_at head parts n text = found_as (with_records parts) (all_at (arc_record_at head) n text)

-- a vertex's record, field by field: its name, its first arc record, and its utility fields
abbrev pub vertex_fields_at : Head → List ℕ → Option (Found Vertex)
vertex_fields_at head text =
    given (field_at head.counts S text) (λ name.
    given (next_field_at head.counts A name.rest) (λ first.
    given (more_fields_at head.counts (vertex_kinds head.kinds) first.rest) (λ fields.
    option_map (λ v. record { value = v; rest = fields.rest }) (vertex_of_fields (name.value ∷ first.value ∷ fields.value)))))

-- an arc's record: its tip, the next one, its length, and its two utility fields, which are of these kinds
abbrev pub arc_fields_at : Counts → Kind → Kind → List ℕ → Option (Found ArcRec)
arc_fields_at counts a b text =
    given (field_at counts V text) (λ tip.
    given (next_field_at counts A tip.rest) (λ next.
    given (next_field_at counts I next.rest) (λ len.
    given (next_field_at counts a len.rest) (λ first.
    given (next_field_at counts b first.rest) (λ second.
    given (after_prefix (codes "\n") second.rest) (λ rest.
    option_map (λ r. record { value = r; rest = rest }) (arc_of_fields (tip.value ∷ next.value ∷ len.value ∷ first.value ∷ second.value ∷ []))))))))

-- a text begins with a vertex's record, which the parts have after those that they had, and this text is left
abbrev pub IsNextVertex : Head → List ℕ → GraphData → GraphData → List ℕ → Type 0
IsNextVertex head text before after left =
    (x : Vertex) × (vertex_fields_at head text ≡ Some (record { value = x; rest = left })) × (after ≡ with_vertex x before)

-- the same of an arc's record
abbrev pub IsNextArc : Head → List ℕ → GraphData → GraphData → List ℕ → Type 0
IsNextArc head text before after left =
    (x : ArcRec) × (arc_record_at head text ≡ Some (record { value = x; rest = left })) × (after ≡ with_record x before)
