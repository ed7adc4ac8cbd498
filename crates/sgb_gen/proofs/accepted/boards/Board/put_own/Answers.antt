use Rattle.std.proofs.Common.{◌++◌, ◌+◌, ◌∙◌, sym, ap, append-nil, arith}
use Rattle.std.specs.List.{filter}
use Rattle.sgb_moves.specs.inner.Starts.{is_within}
use Rattle.sgb_gen.proofs.BoardWalks.{moves_of}
use Rattle.sgb_gen.proofs.OwnLengths.{all_lengths, all_put, begun, one_put}
use Rattle.sgb_gen.proofs.StartRanges.{own_outside}
use Rattle.sgb_gen.proofs.accepted.boards.Board.put_own.Goals as goal

pub loop-shorter-init : goal.loop-shorter-init
loop-shorter-init c =
    let n = c.lengths_by-count.result in
    let all = all_lengths c.args.self.now c.args.t.now c.args.x.now n c.args.u c.lengths_by-count.ensures in
    ap (λ ss. c.args.starts.now ++ ss) (sym (ap (filter (is_within c.args.range)) all ∙ begun c.args.u n c.args.range))

pub loop-shorter-preserved : goal.loop-shorter-preserved
loop-shorter-preserved c =
    one_put c.args.u c.lengths_by-count.result c.args.range (c.loop-shorter.shorter + 1) c.loop-shorter.starts c.put.new.self _ (omega (arith, c.loop-shorter-test.true, c.min-shorter-end.ensures)) c.loop-shorter.invariant (rw c.if-not-put.false at c.put.ensures.put)

pub returns-clause-all : goal.returns-clause-all
returns-clause-all c =
    all_put c.args.u c.lengths_by-count.result c.args.range (c.loop-shorter.shorter + 1) c.loop-shorter.starts _ (omega (arith, c.loop-shorter-test.false, c.min-shorter-end.ensures)) c.loop-shorter.invariant

pub returns-then-not-has_vertex-clause-all : goal.returns-then-not-has_vertex-clause-all
returns-then-not-has_vertex-clause-all c =
    sym (ap (λ ss. c.args.starts.now ++ ss) (own_outside c.args.range c.args.u (moves_of c.args.self.now c.args.t.now c.args.x.now) (rw c.if-not-has_vertex.true at c.has_vertex.ensures)) ∙ append-nil c.args.starts.now)
