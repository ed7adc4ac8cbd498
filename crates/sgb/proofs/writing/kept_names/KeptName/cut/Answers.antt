use Rattle.std.proofs.Common.{length, ap, arith}
use Rattle.sgb.proofs.KeptNames.{kept-front}
use Rattle.sgb.proofs.writing.kept_names.KeptName.cut.Goals as goal

pub invariant_of-self : goal.invariant_of-self
invariant_of-self c =
    rw (c.shorten.ensures, c.shorten-2.ensures, c.cut.ensures)
    (kept-front _ _ _ c.args.count c.end_of-end.result (omega (arith, c.requires, ap length c.self.view_is)) (rw (← c.self.view_is) at c.end_of-end.ensures.value) c.self.invariant)
