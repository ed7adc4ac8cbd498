use Rattle.std.proofs.Common.{◌≡◌, ◌+◌, drop, length}
use Rattle.sgb_arrays.specs.inner.Puts.{put_from}
use Rattle.sgb_arrays.proofs.puts.put_bytes.Given as goal

-- the bytes from here on are still to be put
abbrev pub invariant-loop-byte : goal.invariant-loop-byte
invariant-loop-byte l = record {
  bytes : put_from l.place (drop l.byte-index l.bytes) l.out ≡ put_from l.at l.bytes l.fn.out;
  place : l.place ≡ l.at + l.byte-index;
  places : length l.out ≡ length l.fn.out;
}
