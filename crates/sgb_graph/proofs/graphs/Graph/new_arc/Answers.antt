use Rattle.sgb_graph.proofs.AddingArcs.{arc_keeps, arc_kept}
use Rattle.sgb_graph.proofs.Growing.{lists_end, parts_of}
use Rattle.sgb_graph.proofs.KeptGraphs.{arc_made}
use Rattle.sgb_graph.proofs.graphs.Graph.new_arc.Goals as goal

pub invariant_of-self-2 : goal.invariant_of-self-2
invariant_of-self-2 c =
    let made = arc_made _ _ _ _ _ _ _ _ _ _ _ c.ranges.len c.self.view_is c.in_ok-put_arc.ensures.nodes c.in_ok-put_arc.ensures.arcs in
    rw made (arc_kept _ _ _ _ (rw c.self.view_is at c.self.invariant) c.requires.plain c.requires.from c.requires.to)

pub returns-in_err-put_arc-clause-ends : goal.returns-in_err-put_arc-clause-ends
returns-in_err-put_arc-clause-ends c = lists_end _ (parts_of _ (rw c.self.view_is at c.self.invariant).graph)

pub returns-clause-ok : goal.returns-clause-ok
returns-clause-ok c = arc_made _ _ _ _ _ _ _ _ _ _ _ c.ranges.len c.self.view_is c.in_ok-put_arc.ensures.nodes c.in_ok-put_arc.ensures.arcs

pub returns-clause-rest : goal.returns-clause-rest
returns-clause-rest c = rw (returns-clause-ok c) (arc_keeps _ _ _ _)

pub returns-clause-ends : goal.returns-clause-ends
returns-clause-ends c = lists_end _ (parts_of _ (rw c.self.view_is at c.self.invariant).graph)
