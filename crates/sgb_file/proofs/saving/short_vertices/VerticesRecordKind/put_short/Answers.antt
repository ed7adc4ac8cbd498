use Rattle.std.proofs.Common.{◌∙◌, sym}
use Rattle.sgb_file.specs.inner.SavedLines.{vertex_texts}
use Rattle.sgb_file.proofs.RecordLines.{next-laid, bare_texts}
use Rattle.sgb_file.proofs.saving.short_vertices.VerticesRecordKind.put_short.Goals as goal

pub returns-then-any_used-clause-laid : goal.returns-then-any_used-clause-laid
returns-then-any_used-clause-laid c =
    next-laid (λ v. vertex_texts v) c.args.graph.now.vertices c.args.k _ _ _ c.requires.within c.vertex-vertex.ensures
    (rw (c.in-Some.ensures.texts, ← c.bytes-then-any_used.ensures.value) c.put_vertex.ensures.laid)

pub returns-clause-laid : goal.returns-clause-laid
returns-clause-laid c =
    let bare = bare_texts c.bytes-2.result.now c.vertex-vertex.result.name.now c.in-Some-short_next.first c.vertex-vertex.result.arcs _ c.bytes-2.ensures.value c.in-Some-short_next.ensures.0 (sym c.any_used.ensures ∙ c.if-any_used.false) in
    next-laid (λ v. vertex_texts v) c.args.graph.now.vertices c.args.k _ _ _ c.requires.within c.vertex-vertex.ensures (rw (← bare) c.put_bare_vertex.ensures.laid)
