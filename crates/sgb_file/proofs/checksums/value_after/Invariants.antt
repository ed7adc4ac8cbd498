use Rattle.std.proofs.Common.{◌≡◌, take}
use Rattle.sgb_file.specs.inner.Layouts.{value_from}
use Rattle.sgb_file.proofs.checksums.value_after.Given as goal

-- the value is that after the bytes before this one
abbrev pub invariant-loop-byte : goal.invariant-loop-byte
invariant-loop-byte l = l.after ≡ value_from l.value (take l.byte-index l.bytes)
