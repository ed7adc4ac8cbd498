use Rattle.sgb_vec.proofs.SumMembers.{Contains-bounded_sums, bounded_sums-rise}
use Rattle.sgb_vec.proofs.laws.sums_are_families.Goals as goal

pub returns : goal.returns
returns c = record { members = Contains-bounded_sums; rising = bounded_sums-rise }
