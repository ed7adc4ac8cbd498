use Rattle.std.proofs.Common.{◌∷◌, [], ap, sym, ◌∙◌, append_assoc}
use Rattle.sgb_graph.specs.Parts.{with_record}
use Rattle.sgb_graph.specs.inner.Fitting.{with_more}
use Rattle.sgb_graph.proofs.parts.Parts.add_arc.Goals as goal

pub returns-clause-ok : goal.returns-clause-ok
returns-clause-ok c =
    let parts = c.self.inside in
    let others = parts.more_vertices.items in
    ap (λ rs. with_more others rs parts.kept) c.in_ok-push.ensures.items
    ∙ (ap (λ rs. record (with_more others [] parts.kept) { records = rs }) (sym (append_assoc parts.kept.records parts.more_records.items (c.args.arc ∷ [])))
    ∙ ap (with_record c.args.arc) c.self.view_is)
