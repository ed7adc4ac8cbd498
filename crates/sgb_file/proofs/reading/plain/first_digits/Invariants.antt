use Rattle.sgb_vec.proofs.Common.{◌≡◌, true, take, list_all, digits_value}
use Rattle.sgb_file.specs.inner.FieldValues.{is_decimal_digit}
use Rattle.sgb_file.specs.inner.Layouts.{value_from}
use Rattle.sgb_file.proofs.reading.plain.first_digits.Given as goal

-- the bytes before this one are digits, and write this number; the value is that after them
abbrev pub invariant-loop-place : goal.invariant-loop-place
invariant-loop-place l =
    (list_all is_decimal_digit (take l.place l.text) ≡ true) × (l.number ≡ digits_value 10 (take l.place l.text))
    × (l.after ≡ value_from l.value (take l.place l.text))
