use Rattle.std.proofs.Common.{◌≡◌, ◌≤◌, ◌*◌, length, take}
use Rattle.sgb_vec.specs.Names.{name_of_vector}
use Rattle.sgb_vec.proofs.texts.put_name.Given as goal

-- the text so far is the name of the entries so far, of which each has at most ten digits and a dot
abbrev pub invariant-loop-place : goal.invariant-loop-place
invariant-loop-place l = (l.text ≡ name_of_vector (take l.place l.vector)) × (length l.text ≤ 11 * l.place)
