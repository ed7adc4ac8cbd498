use Rattle.std.proofs.Common.{◌/◌, ◌-◌, ◌<◌}
use Rattle.sgb_moves.proofs.starts.longest_row.Given as goal

-- a row so long ends there
abbrev pub invariant-loop-k : goal.invariant-loop-k
invariant-loop-k l = (0 < l.row) × (l.low / l.row < (l.high - 1) / l.row)
