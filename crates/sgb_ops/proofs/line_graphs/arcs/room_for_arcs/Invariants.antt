use Rattle.std.proofs.Common.{◌≡◌, ◌+◌, ◌-◌, ◌^◌, min, slice_index, take, sum_by}
use Rattle.sgb_ops.proofs.line_graphs.arcs.room_for_arcs.Given as goal

-- the records of the lines before this one are counted
abbrev pub invariant-loop-line : goal.invariant-loop-line
invariant-loop-line l =
    l.count ≡ min (sum_by (λ x. slice_index l.ends x.to - slice_index l.ends (x.to + 1)) (take l.line-index l.lines)) (2 ^ 64 - 1)
