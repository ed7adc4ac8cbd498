use Rattle.sgb_vec.proofs.Common.{rules, arith, common_steps}
use Rattle.sgb_vec.proofs.Numerals.{next_digit}
use Rattle.sgb_vec.proofs.digits.digits_value.Goals as goal

pub unwrap-digit-requires : goal.unwrap-digit-requires
unwrap-digit-requires c = search (rules, next_digit, common_steps)

pub overflow_mul-value : goal.overflow_mul-value
overflow_mul-value c = grind (arith, next_digit, common_steps)

pub overflow_add-value : goal.overflow_add-value
overflow_add-value c = grind (arith, next_digit, common_steps)

pub loop-byte-preserved : goal.loop-byte-preserved
loop-byte-preserved c = search (rules, next_digit, common_steps)
