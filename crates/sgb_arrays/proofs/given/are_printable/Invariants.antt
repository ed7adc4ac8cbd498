use Rattle.std.proofs.Common.{◌≡◌, true, take}
use Rattle.std.specs.List.{list_all}
use Rattle.sgb_vec.specs.Names.{is_text_byte}
use Rattle.sgb_arrays.proofs.given.are_printable.Given as goal

-- all before this one are
abbrev pub invariant-loop-byte : goal.invariant-loop-byte
invariant-loop-byte l = list_all is_text_byte (take l.byte-index l.bytes) ≡ true
