use Rattle.sgb_vec.proofs.Common.{◌≡◌, ◌++◌, map, range_with_len}
use Rattle.sgb_ops.specs.inner.Circles.{name_around}
use Rattle.sgb_ops.proofs.circles.Circle.push_names.Given as goal

-- the names of the vertices so far
abbrev pub invariant-loop-w : goal.invariant-loop-w
invariant-loop-w l = l.names ≡ l.fn.names ++ map (name_around l.name) (range_with_len 0 l.w)
