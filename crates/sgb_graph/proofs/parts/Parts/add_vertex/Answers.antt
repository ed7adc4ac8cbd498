use Rattle.std.proofs.Common.{◌∷◌, [], ap, sym, ◌∙◌, append_assoc}
use Rattle.sgb_graph.specs.Parts.{with_vertex}
use Rattle.sgb_graph.specs.inner.Fitting.{with_more}
use Rattle.sgb_graph.proofs.parts.Parts.add_vertex.Goals as goal

pub returns-clause-ok : goal.returns-clause-ok
returns-clause-ok c =
    let parts = c.self.inside in
    let others = parts.more_records.items in
    ap (λ xs. with_more xs others parts.kept) c.in_ok-push.ensures.items
    ∙ (ap (λ xs. record (with_more [] others parts.kept) { vertices = xs }) (sym (append_assoc parts.kept.vertices parts.more_vertices.items (c.args.vertex ∷ [])))
    ∙ ap (with_vertex c.args.vertex) c.self.view_is)
