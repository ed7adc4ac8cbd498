use Rattle.std.proofs.Common.{◌≡◌, ◌+◌, length, take}
use Rattle.sgb_file.specs.inner.ShortLines.{put_after}
use Rattle.sgb_file.proofs.saving.short_lines.ShortLines.push_bytes.Given as goal

-- the bytes before this one are put
abbrev pub invariant-loop-byte : goal.invariant-loop-byte
invariant-loop-byte l =
    (l.self ≡ put_after l.fn.self (take l.byte-index l.bytes)) × (length l.self.text ≡ length l.fn.self.text + l.byte-index)
