use Rattle.sgb_graph.proofs.AddedEvents.{adds-then}
use Rattle.sgb_ops.proofs.circles.add_edges_at.Goals as goal

pub returns-clause-ok : goal.returns-clause-ok
returns-clause-ok c = adds-then _ _ _ _ _ _ c.in_ok-add_closing.ensures.ok c.in_ok-add_next.ensures.ok
