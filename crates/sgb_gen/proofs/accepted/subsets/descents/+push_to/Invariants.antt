use Rattle.std.proofs.Common.{length}
use Rattle.sgb_gen.proofs.accepted.subsets.descents.+push_to.Given as goal

abbrev pub decreases-push_to : goal.decreases-push_to
decreases-push_to g l = length l.bounds.now
