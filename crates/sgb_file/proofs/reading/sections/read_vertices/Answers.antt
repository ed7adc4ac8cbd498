use Rattle.sgb_vec.proofs.Common.{rules, sym, ap, subst, ◌∙◌, Option, Err, arith, err_from_is_err_and}
use Rattle.sgb_text.proofs.Findings.{Found}
use Rattle.sgb_graph.specs.declared.fields.Vertex.{Vertex}
use Rattle.sgb_file.specs.inner.Found.{IsFoundBy}
use Rattle.sgb_file.specs.inner.LinesLeft.{text_left}
use Rattle.sgb_file.specs.inner.ReadRecords.{vertex_record_at}
use Rattle.sgb_file.proofs.FoundSteps.{vertex_steps}
use Rattle.sgb_file.proofs.Sections.{next_vertex, next_stops, vertices_read}
use Rattle.sgb_file.proofs.reading.sections.read_vertices.Goals as goal

pub returns-in_err-read_vertex-clause-found : goal.returns-in_err-read_vertex-clause-found
returns-in_err-read_vertex-clause-found c =
    let p = err_from_is_err_and c.from_residual.result c.from_residual.ensures.1 in
    let count = ap (λ h. h.counts.vertices) c.head-inside.view_is ∙ ap (λ h. h.counts.vertices) c.head.view_is in
    rw (p.1, p.2) (next_stops (vertex_record_at c.args.head.now) _ _ _ _ _ _ _ _ (omega (arith, count, c.loop-v-test.true)) c.loop-v.invariant.0
    (subst (λ (o : Option (Found Vertex)). IsFoundBy {X = Vertex} o (Err c.in_err-read_vertex.field-0.0) (text_left c.read_vertex.new.lines)) (sym (vertex_steps c.args.head.now (text_left c.loop-v.lines))) c.in_err-read_vertex.ensures.err))

pub loop-v-preserved : goal.loop-v-preserved
loop-v-preserved c = search (rules, next_vertex)

pub returns-clause-found : goal.returns-clause-found
returns-clause-found c = search (rules, vertices_read)
