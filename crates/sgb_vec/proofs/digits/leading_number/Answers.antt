use Rattle.std.proofs.Common.{rules, arith}
use Rattle.sgb_vec.proofs.NamedNumbers.{AreDigits, digits_are_below, leading_are_digits}
use Rattle.sgb_vec.proofs.digits.leading_number.Goals as goal

pub digits_value-requires-clause-numeral : goal.digits_value-requires-clause-numeral
digits_value-requires-clause-numeral c =
    let are : AreDigits c.args.radix c.args.most c.leading_digits-digits.result.now = rw c.leading_digits-digits.ensures (leading_are_digits c.args.radix c.args.most c.args.text.now) in
    search (rules, are)

pub digits_value-requires-clause-fits : goal.digits_value-requires-clause-fits
digits_value-requires-clause-fits c =
    let are : AreDigits c.args.radix c.args.most c.leading_digits-digits.result.now = rw c.leading_digits-digits.ensures (leading_are_digits c.args.radix c.args.most c.args.text.now) in
    omega (arith, digits_are_below c.args.radix c.args.most c.leading_digits-digits.result.now (omega (arith, c.requires.low)) are, c.requires.fits)

pub returns-clause-bound : goal.returns-clause-bound
returns-clause-bound c =
    let are : AreDigits c.args.radix c.args.most c.leading_digits-digits.result.now = rw c.leading_digits-digits.ensures (leading_are_digits c.args.radix c.args.most c.args.text.now) in
    rw c.digits_value.ensures (digits_are_below c.args.radix c.args.most c.leading_digits-digits.result.now (omega (arith, c.requires.low)) are)
