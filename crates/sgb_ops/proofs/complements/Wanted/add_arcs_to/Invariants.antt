use Rattle.std.proofs.Common.{drop}
use Rattle.sgb_graph.proofs.AddedEvents.{AddsUpTo}
use Rattle.sgb_ops.specs.inner.Complement.{events_to}
use Rattle.sgb_ops.proofs.complements.Wanted.add_arcs_to.Given as goal

-- the arcs to the vertices from this place on are still to come
abbrev pub invariant-loop-tip : goal.invariant-loop-tip
invariant-loop-tip l =
    let to = events_to l.self.copy l.self.self_loops l.self.directed l.u in
    AddsUpTo l.self.directed l.fn.built l.built (to (drop l.tip-index l.tips)) (to l.tips)
