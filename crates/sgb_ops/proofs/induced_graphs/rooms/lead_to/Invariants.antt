use Rattle.sgb_vec.proofs.Common.{◌≡◌, ◌==◌, drop, list_any}
use Rattle.sgb_ops.proofs.induced_graphs.rooms.lead_to.Given as goal

-- one is among the arcs that are left, if there is one
abbrev pub invariant-loop-arc : goal.invariant-loop-arc
invariant-loop-arc l = list_any (λ x. x.tip == l.v) (drop l.arc-index l.arcs) ≡ list_any (λ x. x.tip == l.v) l.arcs
