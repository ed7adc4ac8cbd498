use Rattle.std.proofs.Common.{◌≡◌, ◌*◌, ◌≤◌, length, take}
use Rattle.sgb_vec.specs.Names.{name_of_vector}
use Rattle.sgb_vec.proofs.texts.name_len.Given as goal

-- the count so far is the length of the name of the entries so far
abbrev pub invariant-loop-place : goal.invariant-loop-place
invariant-loop-place l = (l.bytes ≡ length (name_of_vector (take l.place l.vector))) × (l.bytes ≤ 11 * l.place)
