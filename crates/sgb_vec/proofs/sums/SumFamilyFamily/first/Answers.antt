use Rattle.std.proofs.Common.{rules}
use Rattle.sgb_vec.specs.Sums.{BoundedSum, bounded_sums}
use Rattle.sgb_vec.proofs.SumWalks.{room_from_member}
use Rattle.sgb_vec.proofs.sums.SumFamilyFamily.first.Goals as goal

pub put_least-requires-clause-room : goal.put_least-requires-clause-room
put_least-requires-clause-room c = search (rules, BoundedSum, bounded_sums, room_from_member)
