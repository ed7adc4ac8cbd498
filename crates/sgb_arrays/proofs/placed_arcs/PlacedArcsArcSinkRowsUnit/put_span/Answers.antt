use Rattle.std.proofs.Common.{◌≡◌, ◌+◌, ◌∷◌, [], List, ℕ, Ok, arith, drop, refl, subst, sym}
use Rattle.std.specs.List.{Contains}
use Rattle.sgb_gen.specs.Spans.{arc_along, arcs_of_span}
use Rattle.sgb_gen.specs.VectorGraphs.{vertex_among}
use Rattle.sgb_gen.proofs.ArcsInTurn.{exit_part, so_far_all, so_far_begun, so_far_more}
use Rattle.sgb_gen.proofs.SpanArcs.{next-apart, none-left}
use Rattle.sgb_arrays.proofs.PlacedRows.{arc_given, arcs_in_turn}
use Rattle.sgb_arrays.proofs.placed_arcs.PlacedArcsArcSinkRowsUnit.put_span.Goals as goal

pub loop-k-init : goal.loop-k-init
loop-k-init g c = so_far_begun (arcs_in_turn (g.P.VectorPlaces.vectors c.args.self.now.places.now)) _ _ c.args.rows.now 0 refl

pub returns-in_err-push_arc-clause-given : goal.returns-in_err-push_arc-clause-given
returns-in_err-push_arc-clause-given g c =
    let p = c.args.span.now in
    exit_part (arcs_in_turn (g.P.VectorPlaces.vectors c.args.self.now.places.now)) _ _ (arc_along p.sizes p.wrap p.x p.parts c.length_at-l.result ∷ []) (drop (c.loop-k.k + 1) (arcs_of_span p))
    c.args.rows.now 0 c.loop-k.rows 0 c.push_arc.new.self 0 _ _ c.from_residual.ensures.1 (next-apart p c.loop-k.k c.length_at-l.result c.length_at-l.ensures) c.loop-k.invariant c.in_err-push_arc.ensures.memory

pub loop-k-preserved : goal.loop-k-preserved
loop-k-preserved g c =
    let places = g.P.VectorPlaces.vectors c.args.self.now.places.now in
    let p = c.args.span.now in
    let arc = arc_along p.sizes p.wrap p.x p.parts c.length_at-l.result in
    let found = subst (λ (vs : List (List ℕ)). Contains vs arc.tip → c.tip_among-tip.result ≡ vertex_among vs arc.tip) (sym c.requires.at.0) c.tip_among-tip.ensures in
    so_far_more (arcs_in_turn places) _ _ (arc ∷ []) (drop (c.loop-k.k + 1) (arcs_of_span p)) c.args.rows.now 0 c.loop-k.rows 0 c.push_arc.new.self 0
    (next-apart p c.loop-k.k c.length_at-l.result c.length_at-l.ensures) c.loop-k.invariant
    (arc_given {T = ℕ} places arc.tip c.length_at-l.result c.tip_among-tip.result c.loop-k.rows c.push_arc.new.self (Ok 0) found
    c.in_ok-push_arc.ensures.tips c.in_ok-push_arc.ensures.lengths c.in_ok-push_arc.ensures.starts tt)

pub returns-clause-given : goal.returns-clause-given
returns-clause-given g c =
    so_far_all (arcs_in_turn (g.P.VectorPlaces.vectors c.args.self.now.places.now)) _ _ c.args.rows.now 0 c.loop-k.rows 0
    (none-left c.args.span.now c.loop-k.k c.len-k-end.result c.len-k-end.ensures (omega arith)) c.loop-k.invariant
