use Rattle.std.proofs.Common.{◌≡◌, length, map, min}
use Rattle.sgb_vec.specs.Sizes.{repeated}
use Rattle.sgb_vec.proofs.shapes.simplexes.clamped_bounds.Given as goal

-- the bounds so far are the first ones, clamped
abbrev pub invariant-loop-place : goal.invariant-loop-place
invariant-loop-place l =
    (l.bounds.items ≡ map (λ b. min b l.n) (repeated l.to_repeat l.place)) × (length l.bounds.items ≡ l.place)
