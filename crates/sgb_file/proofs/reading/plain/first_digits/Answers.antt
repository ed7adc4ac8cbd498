use Rattle.sgb_vec.proofs.Common.{rules, refl, common_steps, length-take, take_all}
use Rattle.sgb_file.specs.inner.FieldValues.{is_decimal_digit}
use Rattle.sgb_file.specs.inner.Layouts.{value_from}
use Rattle.sgb_file.proofs.CountedFields.{digit_valued, digits_all, digits_until, no_digit_counts}
use Rattle.sgb_file.proofs.NumberReading.{counts_on}
use Rattle.sgb_file.proofs.reading.plain.first_digits.Goals as goal

pub returns-then-digit-gt9 : goal.returns-then-digit-gt9
returns-then-digit-gt9 c = search (rules, digits_until, length-take, no_digit_counts, value_from)

pub overflow_mul-number : goal.overflow_mul-number
overflow_mul-number c = search (rules, common_steps, counts_on)

pub overflow_add-number : goal.overflow_add-number
overflow_add-number c = search (rules, common_steps, counts_on)

pub loop-place-preserved : goal.loop-place-preserved
loop-place-preserved c = search (rules, counts_on, digit_valued)

pub returns : goal.returns
returns c = search (rules, digits_all, is_decimal_digit, take_all, value_from)

pub loop-place-init : goal.loop-place-init
unfolding value_from
loop-place-init c = (refl, refl, refl)
