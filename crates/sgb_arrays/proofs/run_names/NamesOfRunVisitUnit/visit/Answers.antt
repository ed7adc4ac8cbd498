use Rattle.sgb_arrays.proofs.LocalRuns.{names_answered, refusal_answered}
use Rattle.sgb_arrays.proofs.run_names.NamesOfRunVisitUnit.visit.Goals as goal

pub returns : goal.returns
returns g c =
    let graph = g.L.Listed.graph c.args.listed.now in
    let members = g.L.Members.Family.members c.family.result.now in (
      names_answered graph members c.args.self.first c.args.self.count c.names_in.result c.family.ensures.members c.names_in.ensures.names,
      refusal_answered graph members c.args.self.first c.args.self.count c.names_in.result c.family.ensures.members c.names_in.ensures.refused,
    )
