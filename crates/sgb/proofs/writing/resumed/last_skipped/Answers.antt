use Rattle.std.proofs.Common.{◌-◌, arith}
use Rattle.sgb.proofs.ResumedListings.{skipped_last}
use Rattle.sgb.proofs.writing.resumed.last_skipped.Goals as goal

pub returns : goal.returns
returns g c =
    let skipped = c.min-skipped.result in
    skipped_last (g.F.Family.members c.args.family.now) c.args.count c.from.result skipped (skipped - 1) c.at-found.result c.at-found.new.vector.items (omega (arith, c.from.ensures, c.size.ensures)) c.min-skipped.ensures
    (omega (arith, c.if-skipped-eq0.false)) (omega (arith, c.if-skipped-eq0.false)) c.at-found.ensures.found c.at-found.ensures.none
