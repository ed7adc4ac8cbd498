use Rattle.std.proofs.Common.{◌≡◌, ◌≤◌, ◌∙◌, ◌++◌, ℤ, List, All, length, nat_abs, reverse, ap, sym, subst, rules}
use Rattle.sgb_vec.proofs.BoxPlaces.{IsBelow-from_Contains}
use Rattle.sgb_vec.specs.Boxes.{box}
use Rattle.sgb_moves.specs.Limits.{most_piece}
use Rattle.sgb_moves.specs.Moves.{sides_of}
use Rattle.sgb_gen.specs.inner.LocalBoards.{arcs_onward, moves_by}
use Rattle.sgb_gen.specs.inner.StraightLists.{arcs_by_all}
use Rattle.sgb_gen.proofs.ArcsInTurn.{exit_part, so_far_begun, so_far_more}
use Rattle.sgb_gen.proofs.BoundedMoves.{moves_within}
use Rattle.sgb_gen.proofs.ListsOfBoards.{list_of_board}
use Rattle.sgb_gen.proofs.WalkedArcs.{arcs_apart, last_has, others_have}
use Rattle.sgb_gen.proofs.accepted.boards.Board.give_walked.Goals as goal

abbrev IsSmall : List ℤ → Type 0
IsSmall t = All (λ e. nat_abs e ≤ most_piece) t

pub loop-t-init : goal.loop-t-init
loop-t-init g c =
    let left = c.displacements-left in (
      left.ensures.dimensions,
      left.ensures.small,
      so_far_begun (g.met.K.ArcSink.laws c.args.sink.now) _ _ _ _ (search (rules, moves_within, list_of_board)),
      c.requires.ready,
    )

pub put_opposite-requires-clause-small : goal.put_opposite-requires-clause-small
put_opposite-requires-clause-small g c = last_has c.loop-t.left c.in-Some.t.now c.in-Some.ensures.last IsSmall c.loop-t.invariant.1

pub give_both-requires-clause-below : goal.give_both-requires-clause-below
give_both-requires-clause-below g c = IsBelow-from_Contains c.args.self.now.sizes c.args.x.now c.requires.member

pub give_both-requires-clause-dimensions : goal.give_both-requires-clause-dimensions
give_both-requires-clause-dimensions g c =
    ap length c.of-ahead.ensures ∙ last_has c.loop-t.left c.in-Some.t.now c.in-Some.ensures.last (λ u. length u ≡ length c.args.self.now.sizes) c.loop-t.invariant.0

pub returns-in_err-give_both-clause-given : goal.returns-in_err-give_both-clause-given
returns-in_err-give_both-clause-given g c =
    let b = c.args.self.now in
    let x = c.args.x.now in
    let ts = c.loop-t.left in
    let t = c.in-Some.t.now in
    let is = c.in-Some.ensures.last in
    exit_part (g.met.K.ArcSink.laws c.args.sink.now) _ _ _ _ _ _ _ _ _ _ _ _ c.from_residual.ensures.1
    (arcs_apart ts t is b x) c.loop-t.invariant.2 (rw c.of-ahead.ensures at c.in_err-give_both.ensures.given)

pub loop-t-preserved : goal.loop-t-preserved
loop-t-preserved g c =
    let b = c.args.self.now in
    let x = c.args.x.now in
    let ts = c.loop-t.left in
    let t = c.in-Some.t.now in
    let is = c.in-Some.ensures.last in
    let left = c.retreat.ensures in (
      subst (All (λ u. length u ≡ length b.sizes)) (sym left) (others_have ts t is (λ u. length u ≡ length b.sizes) c.loop-t.invariant.0),
      subst (All IsSmall) (sym left) (others_have ts t is IsSmall c.loop-t.invariant.1),
      so_far_more (g.met.K.ArcSink.laws c.args.sink.now) _ _ _ _ _ _ _ _ _ _
          (arcs_apart ts t is b x ∙ ap (λ l. reverse (arcs_onward b.directed x (moves_by (sides_of b.sizes b.wrap) b.piece (box b.sizes) t)) ++ l) (ap (arcs_by_all b x) (sym left)))
          c.loop-t.invariant.2 (rw c.of-ahead.ensures at c.in_ok-give_both.ensures.given),
      c.in_ok-give_both.ensures.ready,
    )
