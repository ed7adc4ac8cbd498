use Rattle.std.proofs.Common.{arith}
use Rattle.itoa.proofs.Decimal.{length_one}
use Rattle.sgb_vec.proofs.VectorNames.{length-decimal-power}
use Rattle.sgb_vec.proofs.texts.digit_count.Goals as goal

pub returns-in-Some-clause-value : goal.returns-in-Some-clause-value
returns-in-Some-clause-value c = omega (arith, length-decimal-power c.in-Some.power c.args.number c.in-Some.ensures.power_le c.in-Some.ensures.next_power_gt (omega arith))

pub returns-in-None-clause-value : goal.returns-in-None-clause-value
returns-in-None-clause-value c = omega (arith, length_one c.args.number (omega (arith, c.in-None.ensures.none)))
