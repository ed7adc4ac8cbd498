use Rattle.sgb_vec.proofs.Common.{◌≡◌, ◌+◌, ◌==◌, length, position_or_len}
use Rattle.sgb_file.proofs.scans.bytes_before.Given as goal

-- the first one is looked for among the bytes that are left
abbrev pub invariant-loop-rest : goal.invariant-loop-rest
invariant-loop-rest l =
    (l.passed + position_or_len (λ b. b == l.byte) l.rest ≡ position_or_len (λ b. b == l.byte) l.fn.text)
    × (l.passed + length l.rest ≡ length l.fn.text)

abbrev pub decreases-loop-rest : goal.decreases-loop-rest
decreases-loop-rest l = length l.rest
