use Rattle.std.proofs.Common.{◌≡◌, ◌≤◌, take, length, filter_map}
use Rattle.sgb_file.specs.inner.ReadFiles.{kind_of_letter}
use Rattle.sgb_file.proofs.reading.openings.kinds_at.Given as goal

-- the kinds before this place stand
abbrev pub invariant-loop-place : goal.invariant-loop-place
invariant-loop-place l = (filter_map kind_of_letter (take l.place l.text) ≡ take l.place l.kinds) × (length l.kinds ≡ 14) × (l.place ≤ 14)
