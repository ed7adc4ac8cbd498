use Rattle.sgb_vec.proofs.Common.{rules, arith, ap, sym, ◌∙◌, ℕ, Some, drop, take_min, take_rest}
use Rattle.sgb_file.specs.inner.FieldValues.{is_decimal_digit}
use Rattle.sgb_file.specs.inner.Found.{is_at_end}
use Rattle.sgb_file.proofs.NumberReading.{number_is_small}
use Rattle.sgb_file.proofs.CountedFields.{comma_free, ends_with_digits, no_number, number_ends, number_goes_on}
use Rattle.sgb_file.proofs.reading.plain.counted_number.Goals as goal

pub returns-then-len-eq0-clause-value : goal.returns-then-len-eq0-clause-value
returns-then-len-eq0-clause-value c = search (rules, is_decimal_digit, no_number, take_min)

pub returns-then-not-is_at_end-clause-value : goal.returns-then-not-is_at_end-clause-value
returns-then-not-is_at_end-clause-value c = search (rules, is_at_end, is_decimal_digit, number_goes_on, take_min, take_rest)

pub returns : goal.returns
returns c =
    let text = c.args.text.now in
    let first = rw (c.min.ensures, take_min 18 text) at c.first_digits-number.ensures in
    let rest = ap is_at_end (take_rest text c.first_digits-number.result.1) ∙ ap (λ (k : ℕ). is_at_end (drop k text)) first.count in
    let ends = sym rest ∙ (sym c.is_at_end.ensures ∙ c.if-not-is_at_end.false) in
    let says = number_ends 18 text (omega (arith, first.count, c.if-len-eq0.false)) ends in
    let field = ends_with_digits 18 text ends in record {
      value = ap Some first.value ∙ sym says;
      bound = number_is_small 18 (comma_free text) c.first_digits-number.result.0 (says ∙ ap Some (sym first.value));
      len = rw field first.count;
      counted = rw field first.counted;
    }
