use Rattle.std.proofs.Common.{◌≡◌, true, take}
use Rattle.std.specs.Prelude.{nat_lt}
use Rattle.std.specs.List.{list_all}
use Rattle.sgb_arrays.proofs.given.are_below.Given as goal

-- all before this one are
abbrev pub invariant-loop-end : goal.invariant-loop-end
invariant-loop-end l = list_all (λ u. nat_lt u l.n) (take l.end-index l.ends) ≡ true
