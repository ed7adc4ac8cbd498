use Rattle.std.proofs.Common.{◌≡◌, ◌<◌, ◌^◌, length}
use Rattle.sgb_file.specs.inner.Layouts.{checksum_from}
use Rattle.sgb_file.proofs.checksums.last_bytes.Given as goal

-- the checksum goes on with the bytes that are left
abbrev pub invariant-loop-rest : goal.invariant-loop-rest
invariant-loop-rest l = (checksum_from l.after l.rest ≡ checksum_from l.fn.sum l.fn.bytes) × (l.after < 2 ^ 32)
    × (0 < length l.fn.bytes → 0 < length l.rest)

abbrev pub decreases-loop-rest : goal.decreases-loop-rest
decreases-loop-rest l = length l.rest
