use Rattle.std.proofs.Common.{◌≡◌, ◌+◌, ◌∷◌, ◌++◌, length, drop, map, pos}
use Rattle.sgb_vec.specs.Bounds.{clamped_parameter}
use Rattle.sgb_vec.proofs.shapes.simplexes.clamped_parameters.Given as goal

-- the parameters so far, with the clamped ones of the rest, are all
abbrev pub invariant-loop-entry : goal.invariant-loop-entry
invariant-loop-entry l =
    (l.params.items ++ map (clamped_parameter l.fn.n) (drop l.entry-index l.entries) ≡ pos l.fn.n ∷ map (clamped_parameter l.fn.n) l.entries) × (length l.params.items ≡ l.entry-index + 1)
