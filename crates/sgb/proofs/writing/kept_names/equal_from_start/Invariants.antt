use Rattle.std.proofs.Common.{◌≡◌, take}
use Rattle.sgb.proofs.writing.kept_names.equal_from_start.Given as goal

-- the entries before this place are alike
abbrev pub invariant-loop-place : goal.invariant-loop-place
invariant-loop-place l = take l.place l.a ≡ take l.place l.b
