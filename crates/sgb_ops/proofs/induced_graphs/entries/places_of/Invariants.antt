use Rattle.std.proofs.Common.{◌≡◌, map, take}
use Rattle.sgb_ops.specs.inner.Copies.{sized}
use Rattle.sgb_ops.proofs.induced_graphs.entries.places_of.Given as goal

-- those of the entries so far
abbrev pub invariant-loop-v : goal.invariant-loop-v
invariant-loop-v l = l.places.items ≡ map sized (take l.v l.entries)
