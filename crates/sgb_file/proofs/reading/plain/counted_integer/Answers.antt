use Rattle.sgb_vec.proofs.Common.{rules, w64, to_z-of_z}
use Rattle.sgb_file.proofs.CountedFields.{minus_counted}
use Rattle.sgb_file.proofs.reading.plain.counted_integer.Goals as goal

pub returns-in-Some : goal.returns-in-Some
returns-in-Some c =
    rw (to_z-of_z w64 c.minus.result (search rules))
    (minus_counted _ _ _ _ _ _ _ c.in-Some.digits.now (search rules) c.value_after_byte-begun.ensures c.in_ok-number.ensures.bound c.minus.ensures c.in_ok-number.ensures.value
    c.in_ok-number.ensures.len c.in_ok-number.ensures.counted)
