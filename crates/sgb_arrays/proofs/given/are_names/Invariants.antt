use Rattle.std.proofs.Common.{◌≡◌, true, map}
use Rattle.std.specs.List.{list_all, range_with_len}
use Rattle.sgb_vec.specs.Limits.{most_bytes}
use Rattle.sgb_arrays.specs.Lists.{part_by_starts}
use Rattle.sgb_arrays.specs.Given.{is_text_of}
use Rattle.sgb_arrays.proofs.given.are_names.Given as goal

-- the names before this one are texts
abbrev pub invariant-loop-v : goal.invariant-loop-v
invariant-loop-v l = list_all (is_text_of most_bytes) (map (part_by_starts l.bytes l.starts) (range_with_len 0 l.v)) ≡ true
