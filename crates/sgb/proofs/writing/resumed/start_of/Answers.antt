use Rattle.std.proofs.Common.{rules, suc, option_map, refl, ap}
use Rattle.std.specs.Prelude.{ok_or}
use Rattle.sgb_requests.specs.declared.faults.Fault.TheVariants as fault
use Rattle.sgb_gen.specs.VectorGraphs.{vertex_among}
use Rattle.sgb.proofs.ResumedListings.{skipped_begins}
use Rattle.sgb.proofs.writing.resumed.start_of.Goals as goal

pub returns-in-Skip : goal.returns-in-Skip
returns-in-Skip g c = search (rules, skipped_begins, option_map)

pub returns-in-Some : goal.returns-in-Some
returns-in-Some g c =
    let here = rw c.bytes.ensures at c.in-Some.ensures.1 in
    rw c.in-After.is (c.in-Some.ensures.0, (suc (vertex_among (g.F.Family.members c.args.family.now) c.in-Some.vector.items), ap (λ v. ok_or (option_map suc v) fault.NoVertex) here, refl))
