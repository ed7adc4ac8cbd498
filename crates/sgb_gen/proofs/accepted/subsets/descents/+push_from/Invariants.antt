use Rattle.std.proofs.Common.{length}
use Rattle.sgb_gen.proofs.accepted.subsets.descents.+push_from.Given as goal

abbrev pub decreases-push_from : goal.decreases-push_from
decreases-push_from g l = length l.bounds.now
