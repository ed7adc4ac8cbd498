use Rattle.std.proofs.Common.{rules, ◌≡◌, ◌∙◌, false, ap, sym, subst, refl, arith, flat_map}
use Rattle.sgb_graph.specs.Growth.{AddsEvents}
use Rattle.sgb_graph.specs.Vertices.{order_of}
use Rattle.sgb_ops.specs.inner.Circles.{edges_at}
use Rattle.sgb_ops.proofs.CircleBoards.{order_around}
use Rattle.sgb_ops.proofs.EdgesAround.{AreLeft, left_around}
use Rattle.sgb_ops.proofs.Places.{place_added, places_added}
use Rattle.sgb_ops.proofs.circles.Circle.add_edges.Goals as goal

pub add_edges_at-requires-clause-few : goal.add_edges_at-requires-clause-few
add_edges_at-requires-clause-few c =
    let count : c.self.inside.n ≡ order_of c.args.self.now = sym (order_around c.self.inside.n) ∙ ap order_of c.self.view_is in
    omega (arith, count, c.requires.few, c.loop-w.invariant.added.rest.size)

pub loop-w-preserved : goal.loop-w-preserved
loop-w-preserved c =
    let n = order_of c.args.self.now in
    let w = c.loop-w.w in
    let count : c.self.inside.n ≡ n = sym (order_around c.self.inside.n) ∙ ap order_of c.self.view_is in
    let added = subst (λ k. AddsEvents false c.loop-w.built c.add_edges_at.new.built (edges_at k c.args.start w)) count c.in_ok-add_edges_at.ensures.ok in
    place_added false c.args.built.now c.loop-w.built (flat_map (edges_at n c.args.start)) n w c.add_edges_at.new.built _ (omega (arith, count)) c.loop-w.invariant added refl

pub returns-clause-ok : goal.returns-clause-ok
returns-clause-ok c =
    let n = order_of c.args.self.now in
    let count : c.self.inside.n ≡ n = sym (order_around c.self.inside.n) ∙ ap order_of c.self.view_is in
    places_added false c.args.built.now c.loop-w.built (flat_map (edges_at n c.args.start)) n c.loop-w.w (omega (arith, count)) c.loop-w.invariant refl

pub returns-clause-left : goal.returns-clause-left
returns-clause-left c = subst (AreLeft c.args.start) c.self.view_is (left_around c.self.inside.n c.args.start (search rules))

pub returns-in_err-add_edges_at-clause-left : goal.returns-in_err-add_edges_at-clause-left
returns-in_err-add_edges_at-clause-left c = subst (AreLeft c.args.start) c.self.view_is (left_around c.self.inside.n c.args.start (search rules))
