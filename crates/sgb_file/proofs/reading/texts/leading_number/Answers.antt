use Rattle.std.proofs.Common.{rules, sym}
use Rattle.sgb_file.proofs.NumberReading.{long_read, short_read, not_read, rest_within}
use Rattle.sgb_file.proofs.reading.texts.leading_number.Goals as goal

pub returns-in_err-number-clause-value : goal.returns-in_err-number-clause-value
returns-in_err-number-clause-value c = search (rules, not_read)

pub returns-then-text-rest-gt-MOST_NUMBER_DIGITS-clause-value : goal.returns-then-text-rest-gt-MOST_NUMBER_DIGITS-clause-value
returns-then-text-rest-gt-MOST_NUMBER_DIGITS-clause-value c = search (rules, long_read c.args.text.now c.in_ok-number.number c.in_ok-number.rest.now)

pub returns-clause-value : goal.returns-clause-value
returns-clause-value c = search (rules, short_read c.args.text.now c.in_ok-number.number c.in_ok-number.rest.now)

pub returns-clause-bound : goal.returns-clause-bound
returns-clause-bound c = search (rules, short_read c.args.text.now c.in_ok-number.number c.in_ok-number.rest.now)

pub overflow_sub-text : goal.overflow_sub-text
overflow_sub-text c = rest_within 19 c.args.text.now c.in_ok-number.number c.in_ok-number.rest.now (sym c.in_ok-number.ensures.value)
