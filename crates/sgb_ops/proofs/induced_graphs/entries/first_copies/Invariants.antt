use Rattle.sgb_vec.proofs.Common.{◌≡◌, map, range_with_len}
use Rattle.sgb_ops.specs.Entries.{first_copy}
use Rattle.sgb_ops.proofs.induced_graphs.entries.first_copies.Given as goal

-- those of the vertices so far, and that of the next
abbrev pub invariant-loop-place : goal.invariant-loop-place
invariant-loop-place l =
    (l.firsts.items ≡ map (first_copy l.places) (range_with_len 0 l.place-index))
    × (l.total ≡ first_copy l.places l.place-index)
