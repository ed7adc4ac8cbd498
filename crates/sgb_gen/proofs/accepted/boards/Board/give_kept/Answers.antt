use Rattle.std.proofs.Common.{◌-◌, ◌∙◌, Some, ap, sym, arith, rules}
use Rattle.std.proofs.lemmas.Bool.{OnTrue_at, OnTrue_from}
use Rattle.std.proofs.lemmas.List.{take_all}
use Rattle.sgb_vec.proofs.BoxPlaces.{IsBelow-from_Contains}
use Rattle.sgb_gen.specs.inner.StraightLists.{NeedsNoSort}
use Rattle.sgb_gen.proofs.ArcsInTurn.{exit_part, so_far_all, so_far_begun, so_far_more}
use Rattle.sgb_gen.proofs.BoundedMoves.{moves_within}
use Rattle.sgb_gen.proofs.GivenArcs.{last_apart}
use Rattle.sgb_gen.proofs.ListsOfBoards.{list_of_board}
use Rattle.sgb_gen.proofs.RunsOfLists.{at_has, none_first, width_in_table}
use Rattle.sgb_gen.proofs.accepted.boards.Board.give_kept.Goals as goal

pub loop-k-init : goal.loop-k-init
loop-k-init g c = (so_far_begun (g.met.K.ArcSink.laws c.args.sink.now) _ _ _ _ (search (rules, take_all, moves_within, list_of_board)), c.requires.ready)

pub give_both-requires-clause-below : goal.give_both-requires-clause-below
give_both-requires-clause-below g c = IsBelow-from_Contains c.args.self.now.sizes c.args.x.now c.requires.member

pub give_both-requires-clause-dimensions : goal.give_both-requires-clause-dimensions
give_both-requires-clause-dimensions g c = search (rules, width_in_table)

pub give_both-requires-clause-sorted : goal.give_both-requires-clause-sorted
give_both-requires-clause-sorted g c =
    let b = c.args.self.now in
    let t = c.ahead-ahead.result in
    OnTrue_from c.args.in_order (NeedsNoSort b t) (λ yes. at_has (NeedsNoSort b) c.args.table.now (c.loop-k.k - 1) t (OnTrue_at yes c.requires.sorted) (c.at-pair.ensures ∙ ap Some (sym c.ahead-ahead.ensures)))

pub returns-in_err-give_both-clause-given : goal.returns-in_err-give_both-clause-given
returns-in_err-give_both-clause-given g c =
    exit_part (g.met.K.ArcSink.laws c.args.sink.now) _ _ _ _ _ _ _ _ _ _ _ _ c.from_residual.ensures.1
    (last_apart c.args.self.now c.args.x.now c.args.table.now c.loop-k.k c.ahead-ahead.result (omega arith) (c.at-pair.ensures ∙ ap Some (sym c.ahead-ahead.ensures))) c.loop-k.invariant.0 c.in_err-give_both.ensures.given

pub loop-k-preserved : goal.loop-k-preserved
loop-k-preserved g c = (
  so_far_more (g.met.K.ArcSink.laws c.args.sink.now) _ _ _ _ _ _ _ _ _ _
      (last_apart c.args.self.now c.args.x.now c.args.table.now c.loop-k.k c.ahead-ahead.result (omega arith) (c.at-pair.ensures ∙ ap Some (sym c.ahead-ahead.ensures))) c.loop-k.invariant.0 c.in_ok-give_both.ensures.given,
  c.in_ok-give_both.ensures.ready,
)

pub returns-clause-given : goal.returns-clause-given
returns-clause-given g c =
    so_far_all (g.met.K.ArcSink.laws c.args.sink.now) _ _ _ _ _ _ (none_first c.args.self.now c.args.x.now c.args.table.now c.loop-k.k (omega arith)) c.loop-k.invariant.0
