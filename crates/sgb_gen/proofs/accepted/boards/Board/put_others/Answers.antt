use Rattle.std.proofs.Common.{◌++◌, ◌+◌, ◌∙◌, refl, sym, ap, append-nil, arith}
use Rattle.std.specs.List.{filter}
use Rattle.sgb_vec.specs.Boxes.{box}
use Rattle.sgb_gen.specs.VectorGraphs.{vertex_among}
use Rattle.sgb_gen.specs.inner.LocalBoards.{other_starts}
use Rattle.sgb_moves.specs.inner.Starts.{is_within}
use Rattle.sgb_gen.proofs.BoardWalks.{leads, led_nowhere, left-all, left-none, left-out, moves_of, others_ended, others_next, others_same, two_at_least}
use Rattle.sgb_gen.proofs.StartRanges.{others_outside}
use Rattle.sgb_gen.proofs.accepted.boards.Board.put_others.Goals as goal

pub loop-shorter-init : goal.loop-shorter-init
loop-shorter-init c = ap (λ ms. c.args.starts.now ++ filter (is_within c.args.range) (other_starts (box c.args.self.now.sizes) c.args.u ms)) (left-all c.args.self.now c.args.back.now c.args.x.now)

pub loop-shorter-preserved-then-v-u : goal.loop-shorter-preserved-then-v-u
loop-shorter-preserved-then-v-u c =
    ap (λ ss. c.loop-shorter.starts ++ filter (is_within c.args.range) ss) (others_same c.args.self.now c.args.back.now c.args.x.now c.args.u (c.loop-shorter.shorter + 1) c.in-Some.v (omega (arith, c.loop-shorter-test.true, c.longest_move-shorter-end.ensures)) (sym c.vertex_at.ensures.vertex ∙ c.in-Some.is) c.if-v-u.true)
    ∙ c.loop-shorter.invariant

pub loop-shorter-preserved : goal.loop-shorter-preserved
loop-shorter-preserved c =
    others_next c.args.self.now c.args.back.now c.args.x.now c.args.u (c.loop-shorter.shorter + 1) c.in-Some.v (is_within c.args.range) c.loop-shorter.starts c.put.new.self _ (omega (arith, c.loop-shorter-test.true, c.longest_move-shorter-end.ensures)) (sym c.vertex_at.ensures.vertex ∙ c.in-Some.is) c.if-v-u.false
    c.loop-shorter.invariant (rw c.if-not-put.false at c.put.ensures.put)

pub returns-clause-all : goal.returns-clause-all
returns-clause-all c =
    others_ended c.args.self.now c.args.back.now c.args.x.now c.args.u (c.loop-shorter.shorter + 1) (is_within c.args.range) c.loop-shorter.starts _
    (left-none c.args.self.now c.args.back.now c.args.x.now (c.loop-shorter.shorter + 1) (omega (arith, c.loop-shorter-test.false, c.longest_move-shorter-end.ensures))) c.loop-shorter.invariant

pub returns-then-is_of-clause-all : goal.returns-then-is_of-clause-all
returns-then-is_of-clause-all c =
    sym (ap (λ ss. c.args.starts.now ++ ss) (others_outside c.args.range (box c.args.self.now.sizes) c.args.u (moves_of c.args.self.now c.args.back.now c.args.x.now) (rw c.if-is_of.true at c.is_of.ensures)) ∙ append-nil c.args.starts.now)

pub returns-in_default-clause-all : goal.returns-in_default-clause-all
returns-in_default-clause-all c =
    let none = led_nowhere (vertex_among (box c.args.self.now.sizes)) (leads c.args.self.now c.args.x.now c.args.back.now (c.loop-shorter.shorter + 1)) (sym c.vertex_at.ensures.vertex ∙ c.in_default.is) in
    others_ended c.args.self.now c.args.back.now c.args.x.now c.args.u (c.loop-shorter.shorter + 1) (is_within c.args.range) c.loop-shorter.starts _
    (left-out c.args.self.now c.args.back.now c.args.x.now (c.loop-shorter.shorter + 1) (omega (arith, c.loop-shorter-test.true, c.longest_move-shorter-end.ensures)) none) c.loop-shorter.invariant

pub returns-then-not-put-clause-many : goal.returns-then-not-put-clause-many
returns-then-not-put-clause-many c =
    two_at_least c.loop-shorter.starts _ _ (is_within c.args.range (c.in-Some.v, c.loop-shorter.shorter + 1)) (c.in-Some.v, c.loop-shorter.shorter + 1) (rw c.if-not-put.true at c.put.ensures.within) (rw c.if-not-put.true at c.put.ensures.some)
    (others_next c.args.self.now c.args.back.now c.args.x.now c.args.u (c.loop-shorter.shorter + 1) c.in-Some.v (is_within c.args.range) c.loop-shorter.starts _ _ (omega (arith, c.loop-shorter-test.true, c.longest_move-shorter-end.ensures)) (sym c.vertex_at.ensures.vertex ∙ c.in-Some.is) c.if-v-u.false
    c.loop-shorter.invariant refl)
