use Rattle.sgb_vec.proofs.Common.{◌≡◌, arith, to_z-of_z, w64, SFits}
use Rattle.sgb_graph.proofs.Standing.{cycle_from_first, cycle_from_next, starts}
use Rattle.sgb_graph.proofs.flips.Flip.new.Goals as goal

pub loop-thrown-init : goal.loop-thrown-init
loop-thrown-init c = rw (← c.seed_of.ensures.value) (cycle_from_first c.seed_of.result c.first_cycle-numbers.result c.first_cycle-numbers.ensures)

pub loop-thrown-preserved : goal.loop-thrown-preserved
loop-thrown-preserved c = cycle_from_next _ c.loop-thrown._thrown c.loop-thrown.numbers c.step_cycle.new.numbers c.loop-thrown.invariant c.step_cycle.ensures

pub returns : goal.returns
returns c =
    let fits : SFits w64 c.args.start = c.ranges.start in
    let all : c.loop-thrown._thrown ≡ 5 = omega arith in
    starts c.args.start c.loop-thrown.numbers (simp (to_z-of_z, all) at c.loop-thrown.invariant)
