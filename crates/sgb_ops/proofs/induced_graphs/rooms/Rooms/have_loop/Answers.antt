use Rattle.std.proofs.Common.{◌==◌, ◌∙◌, ap}
use Rattle.std.specs.List.{list_any}
use Rattle.sgb_graph.specs.declared.fields.Link.{Link}
use Rattle.sgb_taken.specs.Taken.{taken}
use Rattle.sgb_ops.proofs.ReadArcs.{same_loops}
use Rattle.sgb_ops.proofs.induced_graphs.rooms.Rooms.have_loop.Goals as goal

pub returns-clause-ok : goal.returns-clause-ok
returns-clause-ok c =
    let v = c.args.v in
    c.lead_to.ensures
    ∙ (ap (list_any (λ (l : Link). l.tip == v)) c.deref.ensures.value ∙ same_loops v c.take_arcs.new.arcs.items (taken c.args.directed c.args.graph.now v) c.in_ok-take_arcs.ensures.ok)
