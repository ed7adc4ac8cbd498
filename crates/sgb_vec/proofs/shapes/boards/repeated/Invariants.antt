use Rattle.std.proofs.Common.{◌≡◌, length, false}
use Rattle.sgb_vec.specs.Sizes.{repeated}
use Rattle.sgb_vec.specs.inner.Sizes.{has_great_size}
use Rattle.sgb_vec.proofs.shapes.boards.repeated.Given as goal

-- the sizes so far are the first ones, and none is too great
abbrev pub invariant-loop-place : goal.invariant-loop-place
invariant-loop-place l =
    (l.sizes.items ≡ repeated l.before l.place) × (length l.sizes.items ≡ l.place) × (has_great_size l.sizes.items ≡ false)
