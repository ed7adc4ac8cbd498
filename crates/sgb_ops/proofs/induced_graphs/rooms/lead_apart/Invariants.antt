use Rattle.std.proofs.Common.{◌≡◌, drop}
use Rattle.sgb_ops.specs.inner.Induced.{lead_apart}
use Rattle.sgb_ops.proofs.induced_graphs.rooms.lead_apart.Given as goal

-- what is asked of all is asked of those from place i on
abbrev pub invariant-loop-i : goal.invariant-loop-i
invariant-loop-i l = lead_apart (drop l.i l.arcs) ≡ lead_apart l.arcs
