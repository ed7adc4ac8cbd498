use Rattle.sgb_vec.proofs.Common.{◌≡◌, take, digits_value}
use Rattle.sgb_vec.proofs.digits.digits_value.Given as goal

abbrev pub invariant-loop-byte : goal.invariant-loop-byte
invariant-loop-byte l = l.value ≡ digits_value l.radix (take l.byte-index l.digits)
