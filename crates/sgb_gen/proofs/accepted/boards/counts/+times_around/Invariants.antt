use Rattle.sgb_gen.proofs.accepted.boards.counts.+times_around.Given as goal

-- the step is less each time
abbrev pub decreases-times_around : goal.decreases-times_around
decreases-times_around l = l.step
