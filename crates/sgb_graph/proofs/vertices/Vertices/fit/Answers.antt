use Rattle.std.proofs.Common.{◌∙◌}
use Rattle.sgb_graph.proofs.FitColumns.{vertices_fit_by}
use Rattle.sgb_graph.proofs.vertices.Vertices.fit.Goals as goal

pub returns : goal.returns
returns c =
    rw c.deref.ensures.value at c.all_fit.ensures
    ∙ vertices_fit_by c.args.m c.self.inside.names.items c.self.inside.firsts.items c.self.inside.fields c.args.self.now c.self.invariant c.self.view_is
