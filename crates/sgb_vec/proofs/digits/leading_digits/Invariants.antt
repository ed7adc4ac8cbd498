use Rattle.sgb_vec.proofs.Common.{◌≡◌, ◌+◌, drop, is_digit, prefix_len}
use Rattle.sgb_vec.proofs.digits.leading_digits.Given as goal

abbrev pub invariant-loop-count : goal.invariant-loop-count
invariant-loop-count l =
    l.count + prefix_len (λ byte. is_digit byte l.radix) (drop l.count l.longest) ≡ prefix_len (λ byte. is_digit byte l.radix) l.longest
