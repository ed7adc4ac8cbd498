use Rattle.std.proofs.Common.{◌≡◌, ◌≤◌, ◌++◌, length, nat_abs, reverse}
use Rattle.std.specs.List.{All}
use Rattle.sgb_moves.specs.Limits.{most_piece}
use Rattle.sgb_gen.proofs.displacement_tables.DisplacementTable.new.Given as goal

-- those that are left come before those that are kept
abbrev pub invariant-loop-t : goal.invariant-loop-t
invariant-loop-t l =
    (l.left ++ reverse l.kept.items ≡ l.fn.left) × All (λ t. All (λ e. nat_abs e ≤ most_piece) t) l.left

abbrev pub decreases-loop-t : goal.decreases-loop-t
decreases-loop-t l = length l.left
