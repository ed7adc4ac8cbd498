use Rattle.std.proofs.Common.{◌≡◌, ◌++◌, length, drop, cond, map, pos}
use Rattle.sgb_vec.specs.Sizes.{zero_after_stop}
use Rattle.sgb_vec.proofs.shapes.entries.zero_after_stop.Given as goal

-- those so far, with those of the rest, are those of all
abbrev pub invariant-loop-entry : goal.invariant-loop-entry
invariant-loop-entry l =
    (l.params.items ++ cond l.stopped (map (λ n. pos 0) (drop l.entry-index l.entries)) (zero_after_stop (drop l.entry-index l.entries)) ≡ zero_after_stop l.entries) × (length l.params.items ≡ l.entry-index)
