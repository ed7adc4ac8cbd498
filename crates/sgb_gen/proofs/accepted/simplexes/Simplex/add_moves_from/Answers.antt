use Rattle.std.proofs.Common.{rules, ◌+◌, [], ◌∷◌, pos, length, sym, ap, subst, ◌∙◌}
use Rattle.sgb_graph.specs.Growth.{AddsEvents}
use Rattle.sgb_gen.specs.Simplexes.{Places}
use Rattle.sgb_gen.specs.inner.Simplexes.{pairs_from}
use Rattle.sgb_graph.proofs.AddedEvents.{up_to-more}
use Rattle.sgb_gen.proofs.SimplexEvents.{events_by, events_by-out, events_by-next, pairs_left, pairs_left-next}
use Rattle.sgb_gen.proofs.accepted.simplexes.Simplex.add_moves_from.Goals as goal

pub loop-higher-preserved-in_default : goal.loop-higher-preserved-in_default
loop-higher-preserved-in_default c = search (rules, events_by, pairs_left-next, events_by-out, pairs_left)

pub loop-higher-preserved : goal.loop-higher-preserved
loop-higher-preserved c =
    let s = c.args.self.now in
    let x = c.args.x.now in
    let k = c.loop-higher.higher in
    let at : Places = record { lower = c.args.lower; higher = k } in
    let next = ap (events_by s x) (pairs_left-next (length x) c.args.lower k c.loop-higher-test.true)
    ∙ events_by-next s x at (pairs_left (length x) c.args.lower (k + 1)) c.in-Some.u c.args.v (sym c.vertex_at.ensures.vertex ∙ c.in-Some.is) c.requires.vertex in
    let added = subst (λ d. AddsEvents d c.loop-higher.graph c.add_event.new.self (record { from = c.in-Some.u; to = c.args.v; len = pos 1 } ∷ [])) (ap (λ d. d.directed) c.self.view_is) c.in_ok-add_event.ensures.ok in
    up_to-more s.directed c.args.graph.now c.loop-higher.graph c.add_event.new.self _ (events_by s x (pairs_left (length x) c.args.lower (k + 1))) (events_by s x (pairs_from (length x) c.args.lower)) _ c.loop-higher.invariant next added
