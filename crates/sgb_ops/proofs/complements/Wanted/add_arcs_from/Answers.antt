use Rattle.std.proofs.Common.{rules, ◌+◌, arith, subst}
use Rattle.sgb_graph.specs.Growth.{AddsEvents}
use Rattle.sgb_ops.specs.inner.Complement.{is_wanted_where}
use Rattle.sgb_graph.specs.Vertices.{order_of}
use Rattle.sgb_ops.proofs.ComplementEvents.{event_to, first_wanted, wanted_to}
use Rattle.sgb_ops.proofs.PlainLists.{places_from}
use Rattle.sgb_ops.proofs.Places.{place_added, places_added}
use Rattle.sgb_ops.proofs.complements.Wanted.add_arcs_from.Goals as goal

pub loop-w-preserved : goal.loop-w-preserved
loop-w-preserved c =
    let copy = c.args.self.copy in
    let loops = c.args.self.self_loops in
    let d = c.args.self.directed in
    let g = c.args.graph.now in
    let u = c.args.u in
    let w = c.loop-w.w in
    let added = subst (λ b. AddsEvents d c.loop-w.built c.add_arc.new.built (event_to (is_wanted_where b copy loops d u w) u w)) (c.requires.marked w (omega arith)) c.in_ok-add_arc.ensures.ok in
    place_added d c.args.built.now c.loop-w.built (wanted_to g copy loops d u) (order_of g) w c.add_arc.new.built _ (omega arith) c.loop-w.invariant added (first_wanted g copy loops d u w (places_from (order_of g) (w + 1)))

pub returns-clause-ok : goal.returns-clause-ok
returns-clause-ok c = search (rules, places_added, wanted_to, order_of)
