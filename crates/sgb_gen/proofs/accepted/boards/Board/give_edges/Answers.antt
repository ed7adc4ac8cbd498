use Rattle.std.proofs.Common.{◌==◌, cond, arith, rules}
use Rattle.std.proofs.lemmas.List.{take_all}
use Rattle.sgb_moves.specs.inner.Moves.{destination}
use Rattle.sgb_moves.specs.Moves.{sides_of}
use Rattle.sgb_gen.proofs.ArcsInTurn.{exit_part, so_far_begun, so_far_more}
use Rattle.sgb_gen.proofs.EdgesInTurn.{last_edge}
use Rattle.sgb_gen.proofs.accepted.boards.Board.give_edges.Goals as goal

pub loop-k-init : goal.loop-k-init
loop-k-init g c = (so_far_begun (g.met.K.ArcSink.laws c.args.sink.now) _ _ _ _ (search (rules, take_all)), c.requires.ready)

pub returns-in_err-give_edge-clause-given : goal.returns-in_err-give_edge-clause-given
returns-in_err-give_edge-clause-given g c =
    let b = c.args.self.now in
    exit_part (g.met.K.ArcSink.laws c.args.sink.now) _ _ _ _ _ _ _ _ _ _ _ _ c.from_residual.ensures.1
    (last_edge c.args.x.now (λ s. destination (sides_of b.sizes b.wrap) b.piece c.args.x.now (cond (s.0 == c.args.u) c.args.t.now c.args.back.now) s.1) c.args.starts.now c.loop-k.k c.at-v.result (omega arith) c.at-v.ensures)
    c.loop-k.invariant.0 (rw c.either-step.ensures at c.in_err-give_edge.ensures.given)

pub loop-k-preserved : goal.loop-k-preserved
loop-k-preserved g c =
    let b = c.args.self.now in (
      so_far_more (g.met.K.ArcSink.laws c.args.sink.now) _ _ _ _ _ _ _ _ _ _
          (last_edge c.args.x.now (λ s. destination (sides_of b.sizes b.wrap) b.piece c.args.x.now (cond (s.0 == c.args.u) c.args.t.now c.args.back.now) s.1) c.args.starts.now c.loop-k.k c.at-v.result (omega arith) c.at-v.ensures)
          c.loop-k.invariant.0 (rw c.either-step.ensures at c.in_ok-give_edge.ensures.given),
      c.in_ok-give_edge.ensures.ready,
    )
