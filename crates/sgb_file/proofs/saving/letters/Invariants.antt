use Rattle.std.proofs.Common.{◌≡◌, take, map, length}
use Rattle.sgb_graph.specs.Kinds.{letter_of}
use Rattle.sgb_file.proofs.saving.letters.Given as goal

-- the letters before this place stand
abbrev pub invariant-loop-place : goal.invariant-loop-place
invariant-loop-place l = (take l.place l.letters ≡ map letter_of (take l.place l.kinds)) × (length l.letters ≡ 14)
