use Rattle.std.proofs.Common.{◌≡◌, map}
use Rattle.std.specs.List.{range_with_len}
use Rattle.sgb_arrays.specs.Lists.{part_by_starts}
use Rattle.sgb_arrays.proofs.given.names_given.Given as goal

-- the names before this one are there
abbrev pub invariant-loop-v : goal.invariant-loop-v
invariant-loop-v l = l.names ≡ map (part_by_starts l.bytes l.starts) (range_with_len 0 l.v)
