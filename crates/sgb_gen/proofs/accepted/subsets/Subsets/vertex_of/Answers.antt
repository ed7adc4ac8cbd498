use Rattle.std.proofs.Common.{rules}
use Rattle.sgb_vec.proofs.SumMembers.{bounded_sums-rise}
use Rattle.sgb_gen.proofs.RisingVectors.{at_vertex}
use Rattle.sgb_gen.proofs.accepted.subsets.Subsets.vertex_of.Goals as goal

pub returns-in-Some : goal.returns-in-Some
returns-in-Some c = search (rules, at_vertex, bounded_sums-rise)

pub returns-in-None : goal.returns-in-None
returns-in-None c = search rules
