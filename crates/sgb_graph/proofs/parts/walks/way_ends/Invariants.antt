use Rattle.sgb_graph.proofs.MarkedWays.{StepsLead}
use Rattle.sgb_graph.proofs.parts.walks.way_ends.Given as goal

-- as many steps as were taken lead from the first record to the next one
abbrev pub invariant-loop-step : goal.invariant-loop-step
invariant-loop-step l = StepsLead l.records.items l.fn.first l._step l.next
