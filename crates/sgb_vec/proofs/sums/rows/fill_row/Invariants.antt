use Rattle.std.proofs.Common.{◌≤◌, take, All}
use Rattle.sgb_vec.specs.Limits.{most_vertices}
use Rattle.sgb_vec.specs.inner.SumRows.{CountsSums}
use Rattle.sgb_vec.proofs.sums.rows.fill_row.Given as goal

-- the row has the counts of the bounds so far, and none was too great
abbrev pub invariant-loop-place : goal.invariant-loop-place
invariant-loop-place l = CountsSums l.total l.row (take l.place l.bounds) × All (λ count. count ≤ most_vertices) l.row
