use Rattle.std.proofs.Common.{◌-◌, arith, rules}
use Rattle.std.proofs.lemmas.Bool.{OnTrue_at, OnTrue_from}
use Rattle.std.proofs.lemmas.List.{take_all}
use Rattle.sgb_vec.proofs.BoxPlaces.{IsBelow-from_Contains}
use Rattle.sgb_moves.specs.inner.MovedCoordinates.{StayAtOne}
use Rattle.sgb_gen.specs.inner.StraightLists.{IsRun}
use Rattle.sgb_gen.proofs.ArcsInTurn.{exit_part, so_far_all, so_far_begun, so_far_more}
use Rattle.sgb_gen.proofs.BoundedMoves.{moves_within}
use Rattle.sgb_gen.proofs.GivenArcs.{last_apart}
use Rattle.sgb_gen.proofs.ListsOfBoards.{list_of_board}
use Rattle.sgb_gen.proofs.RunsOfLists.{at_has, none_first, width_in_table}
use Rattle.sgb_gen.proofs.StrideTips.{lead_known, stride_known}
use Rattle.sgb_gen.proofs.accepted.boards.Board.give_runs.Goals as goal

pub loop-k-init : goal.loop-k-init
loop-k-init g c = (so_far_begun (g.met.K.ArcSink.laws c.args.sink.now) _ _ _ _ (search (rules, take_all, moves_within, list_of_board)), c.requires.ready)

pub give_run-requires-clause-below : goal.give_run-requires-clause-below
give_run-requires-clause-below g c = IsBelow-from_Contains c.args.self.now.sizes c.args.x.now c.requires.member

pub give_run-requires-clause-dimensions : goal.give_run-requires-clause-dimensions
give_run-requires-clause-dimensions g c = width_in_table c.args.self.now c.args.table.now (c.loop-k.k - 1) c.at.result.now c.requires.table c.at.ensures

pub give_run-requires-clause-run : goal.give_run-requires-clause-run
give_run-requires-clause-run g c = at_has (IsRun c.args.self.now c.args.x.now) c.args.table.now (c.loop-k.k - 1) c.at.result.now c.requires.runs c.at.ensures

pub give_run-requires-clause-near : goal.give_run-requires-clause-near
give_run-requires-clause-near g c =
    let b = c.args.self.now in
    let t = c.at.result.now in
    let stays = StayAtOne b.sizes b.wrap c.args.x.now in
    OnTrue_from c.args.near (stays t) (λ yes. at_has stays c.args.table.now (c.loop-k.k - 1) t (OnTrue_at yes c.requires.near) c.at.ensures)

pub returns-in_err-give_run-clause-given : goal.returns-in_err-give_run-clause-given
returns-in_err-give_run-clause-given g c =
    exit_part (g.met.K.ArcSink.laws c.args.sink.now) _ _ _ _ _ _ _ _ _ _ _ _ c.from_residual.ensures.1
    (last_apart c.args.self.now c.args.x.now c.args.table.now c.loop-k.k c.at.result.now (omega arith) c.at.ensures) c.loop-k.invariant.0 c.in_err-give_run.ensures.given

pub loop-k-preserved : goal.loop-k-preserved
loop-k-preserved g c = (
  so_far_more (g.met.K.ArcSink.laws c.args.sink.now) _ _ _ _ _ _ _ _ _ _
      (last_apart c.args.self.now c.args.x.now c.args.table.now c.loop-k.k c.at.result.now (omega arith) c.at.ensures) c.loop-k.invariant.0 c.in_ok-give_run.ensures.given,
  c.in_ok-give_run.ensures.ready,
)

pub returns-clause-given : goal.returns-clause-given
returns-clause-given g c =
    so_far_all (g.met.K.ArcSink.laws c.args.sink.now) _ _ _ _ _ _ (none_first c.args.self.now c.args.x.now c.args.table.now c.loop-k.k (omega arith)) c.loop-k.invariant.0

pub give_run-requires-clause-stride : goal.give_run-requires-clause-stride
give_run-requires-clause-stride g c =
    stride_known (λ s. s.now) c.args.strides c.stride_kept-stride.result c.args.self.now.sizes c.args.table.now (c.loop-k.k - 1) c.at.result.now c.requires.strides c.at.ensures
    c.stride_kept-stride.ensures.kept c.stride_kept-stride.ensures.none

pub give_run-requires-clause-leads : goal.give_run-requires-clause-leads
give_run-requires-clause-leads g c =
    lead_known c.args.self.now c.args.x.now c.args.strides c.stride_kept-stride.result c.args.table.now (c.loop-k.k - 1) c.at.result.now c.requires.leads c.at.ensures
    c.stride_kept-stride.ensures.none
