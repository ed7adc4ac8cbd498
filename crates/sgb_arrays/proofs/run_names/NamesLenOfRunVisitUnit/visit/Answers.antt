use Rattle.std.proofs.Common.{◌∙◌, ap, length, arith}
use Rattle.sgb_arrays.proofs.LocalRuns.{names_counted}
use Rattle.sgb_arrays.proofs.run_names.NamesLenOfRunVisitUnit.visit.Goals as goal

pub count_bytes-requires : goal.count_bytes-requires
count_bytes-requires g c = omega (arith, c.requires, ap length c.family.ensures.members)

pub returns : goal.returns
returns g c =
    c.count_bytes.ensures ∙ names_counted (g.L.Listed.graph c.args.listed.now) (g.L.Members.Family.members c.family.result.now) c.args.self.first c.args.self.count c.family.ensures.members
