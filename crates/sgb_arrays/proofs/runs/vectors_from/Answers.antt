use Rattle.std.proofs.Common.{◌<◌, arith}
use Rattle.sgb_arrays.proofs.LocalRuns.{rest_from_place}
use Rattle.sgb_arrays.proofs.runs.vectors_from.Goals as goal

pub returns : goal.returns
returns g c =
    let members = g.F.Family.members c.args.family.now in
    let some : 0 < c.args.place = omega (arith, c.if-place-eq0.false) in
    rest_from_place members (g.met.F.Family.rising c.args.family.now) c.args.place c.at-found.new.vector.items c.as_slice.result.now c.at-found.result c.after.result c.unwrap.result
    some c.requires c.as_slice.ensures.value c.at-found.ensures.found c.at-found.ensures.none c.unwrap.ensures c.after.ensures.after
