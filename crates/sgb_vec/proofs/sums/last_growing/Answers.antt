use Rattle.std.proofs.Common.{rules, ◌-◌, ◌<◌, ◌≤◌, get_or, arith}
use Rattle.sgb_vec.proofs.SumTails.{greatest-none, greatest-more, greatest-all, after-more_le}
use Rattle.sgb_vec.proofs.SumWalks.{IsLast-greatest}
use Rattle.sgb_vec.proofs.sums.last_growing.Goals as goal
use Rattle.sgb_vec.proofs.sums.last_growing.Goals.{else-after-gt0-via-then-after-gt0+else-entries-place, else-after-gt0-via-else-after-gt0}

pub loop-place-init : goal.loop-place-init
loop-place-init c = (greatest-none c.args.bounds.now c.args.entries.now c.requires.within, omega arith)

pub returns-then-entries-place-clause-last_after : goal.returns-then-entries-place-clause-last_after
returns-then-entries-place-clause-last_after c = search (rules, IsLast-greatest)

pub overflow_add-after : goal.overflow_add-after
overflow_add-after c = search (rules, after-more_le)

pub loop-place-preserved : goal.loop-place-preserved
loop-place-preserved c =
    let place = c.loop-place.place - 1 in
    let top : 0 < c.loop-place.after → get_or c.args.bounds.now place 0 ≤ get_or c.args.entries.now place 0 =
    elim c.else-after-gt0.branch [
      | else-after-gt0-via-then-after-gt0+else-entries-place w ↦ λ _. w.if-entries-place.false
      | else-after-gt0-via-else-after-gt0 w ↦ λ some. absurd (omega arith)
    ] in (
      greatest-more c.args.bounds.now c.args.entries.now place c.loop-place.place c.loop-place.after (omega arith) c.requires.within (omega arith) top c.loop-place.invariant.0,
      omega (arith, c.visit.ensures, c.loop-place.invariant.1),
    )

pub returns-clause-last : goal.returns-clause-last
returns-clause-last c = grind (arith, greatest-all)
