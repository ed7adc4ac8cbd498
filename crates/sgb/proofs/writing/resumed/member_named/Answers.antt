use Rattle.std.proofs.Common.{rules, Contains}
use Rattle.sgb.proofs.NamedMembers.{member_named, no_member_named, no_vector_named}
use Rattle.sgb.proofs.writing.resumed.member_named.Goals as goal

pub returns-in_err-vector : goal.returns-in_err-vector
returns-in_err-vector g c = rw c.from_residual.ensures (no_vector_named (g.F.Family.members c.args.family.now) c.dims-dims.ensures.vectors c.args.name.now c.in_err-vector.ensures.none)

pub returns-then-len-dims : goal.returns-then-len-dims
returns-then-len-dims g c = search (rules, no_member_named)

pub returns-then-not-holds : goal.returns-then-not-holds
returns-then-not-holds g c = search (rules, Contains, no_member_named)

pub returns : goal.returns
returns g c = search (rules, Contains, member_named)
