use Rattle.sgb_gen.specs.inner.Laws.{ShiftsStayInSum}
use Rattle.sgb_gen.proofs.ShiftLemmas.{shifted-in_sum}
use Rattle.sgb_gen.proofs.laws.shifts_stay_in_sum.Goals as goal

pub returns : goal.returns
returns c = let law : ShiftsStayInSum = shifted-in_sum in law
