use Rattle.std.proofs.Common.{sym, rules, arith}
use Rattle.sgb_graph.proofs.MarkedWays.{steps_more, walk_ends, walk_outside, walk_meets, walk_is_over}
use Rattle.sgb_graph.proofs.parts.walks.way_ends.Goals as goal

pub returns-in_default : goal.returns-in_default
returns-in_default c = sym (walk_ends _ _ _ _ c.loop-step.invariant c.in_default.is (omega arith))

pub returns-then-k-len : goal.returns-then-k-len
returns-then-k-len c = sym (walk_outside _ _ _ _ _ c.loop-step.invariant c.in-Some.is (omega arith) (omega arith))

pub returns-then-marks-k : goal.returns-then-marks-k
returns-then-marks-k c = sym (walk_meets _ _ _ _ _ c.loop-step.invariant c.in-Some.is (c.requires.marked c.in-Some.k (search rules)))

pub loop-step-preserved : goal.loop-step-preserved
loop-step-preserved c = steps_more _ _ _ _ _ _ c.loop-step.invariant c.in-Some.is c.get.ensures

pub returns : goal.returns
returns c = walk_is_over _ _ _ _ _ c.loop-step.invariant (omega arith) c.is_none.ensures
