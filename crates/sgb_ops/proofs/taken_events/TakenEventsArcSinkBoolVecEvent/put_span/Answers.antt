use Rattle.std.proofs.Common.{◌≡◌, ◌+◌, ◌∷◌, [], List, ℕ, Ok, arith, drop, refl, rules, subst, sym}
use Rattle.std.specs.List.{Contains}
use Rattle.sgb_gen.specs.Spans.{arc_along, arcs_of_span}
use Rattle.sgb_gen.specs.VectorGraphs.{vertex_among}
use Rattle.sgb_gen.proofs.ArcsInTurn.{exit_part, so_far_all, so_far_begun, so_far_more}
use Rattle.sgb_gen.proofs.SpanArcs.{next-apart, none-left}
use Rattle.sgb_ops.proofs.KeptEvents.{arc_given, before_given, events_in_turn}
use Rattle.sgb_ops.proofs.taken_events.TakenEventsArcSinkBoolVecEvent.put_span.Goals as goal

pub loop-k-init : goal.loop-k-init
loop-k-init g c =
    let s = c.args.self.now in
    so_far_begun (events_in_turn (g.P.VectorPlaces.vectors s.places.now) s.directed s.loops_once s.vertex s.n) _ _ c.args.after_loop.now c.args.events.now.items refl

pub returns-in_err-push-clause-given : goal.returns-in_err-push-clause-given
returns-in_err-push-clause-given g c =
    let s = c.args.self.now in
    let p = c.args.span.now in
    exit_part (events_in_turn (g.P.VectorPlaces.vectors s.places.now) s.directed s.loops_once s.vertex s.n) _ _ (arc_along p.sizes p.wrap p.x p.parts c.length_at-l.result ∷ []) (drop (c.loop-k.k + 1) (arcs_of_span p))
    c.args.after_loop.now c.args.events.now.items c.loop-k.after_loop c.loop-k.events.items c.push.new.after_loop c.push.new.events.items _ _ c.from_residual.ensures.1
    (next-apart p c.loop-k.k c.length_at-l.result c.length_at-l.ensures) c.loop-k.invariant c.in_err-push.ensures.memory

pub loop-k-preserved : goal.loop-k-preserved
loop-k-preserved g c =
    let s = c.args.self.now in
    let p = c.args.span.now in
    let places = g.P.VectorPlaces.vectors s.places.now in
    let arc = arc_along p.sizes p.wrap p.x p.parts c.length_at-l.result in
    let found = subst (λ (vs : List (List ℕ)). Contains vs arc.tip → c.tip_among-w.result ≡ vertex_among vs arc.tip) (sym c.requires.at.0) c.tip_among-w.ensures in
    so_far_more (events_in_turn places s.directed s.loops_once s.vertex s.n) _ _ (arc ∷ []) (drop (c.loop-k.k + 1) (arcs_of_span p))
    c.args.after_loop.now c.args.events.now.items c.loop-k.after_loop c.loop-k.events.items c.push.new.after_loop c.push.new.events.items
    (next-apart p c.loop-k.k c.length_at-l.result c.length_at-l.ensures) c.loop-k.invariant
    (arc_given {T = ℕ} places s.directed s.loops_once s.vertex s.n c.tip_among-w.result c.length_at-l.result c.loop-k.after_loop c.push.new.after_loop
    arc.tip c.loop-k.events.items c.push.new.events.items (Ok 0) found c.in_ok-push.ensures.after c.in_ok-push.ensures.events tt)

pub returns-clause-given : goal.returns-clause-given
returns-clause-given g c =
    let s = c.args.self.now in
    so_far_all (events_in_turn (g.P.VectorPlaces.vectors s.places.now) s.directed s.loops_once s.vertex s.n) _ _ c.args.after_loop.now c.args.events.now.items c.loop-k.after_loop c.loop-k.events.items
    (none-left c.args.span.now c.loop-k.k c.len-k-end.result c.len-k-end.ensures (omega arith)) c.loop-k.invariant

pub returns-then-lead_before-clause-given : goal.returns-then-lead_before-clause-given
returns-then-lead_before-clause-given g c =
    let s = c.args.self.now in
    before_given {T = ℕ} (λ t. t.first) (λ t. t.stride) c.tips-tips.result (g.P.VectorPlaces.vectors s.places.now) s.directed s.loops_once s.vertex s.n c.args.after_loop.now c.args.events.now.items
    c.args.span.now c.lead_before.result 0 (search rules) (search rules) c.requires.at.0 c.tips-tips.ensures c.lead_before.ensures.before c.lead_before.ensures.none
