use Rattle.std.proofs.Common.{◌≡◌, drop}
use Rattle.sgb_arrays.specs.Given.{climbs_to}
use Rattle.sgb_arrays.proofs.given.climbs_to.Given as goal

-- it is told by those that are left
abbrev pub invariant-loop-place : goal.invariant-loop-place
invariant-loop-place l = climbs_to l.end l.last (drop l.place-index l.others) ≡ climbs_to l.end l.first l.others
