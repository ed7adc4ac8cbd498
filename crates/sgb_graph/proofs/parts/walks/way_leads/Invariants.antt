use Rattle.std.proofs.Common.{◌≡◌, length, true}
use Rattle.sgb_graph.specs.Graphs.{ends_of, numbers_of}
use Rattle.sgb_graph.specs.inner.Walks.{leads_of}
use Rattle.sgb_graph.proofs.parts.walks.way_leads.Given as goal

-- the way goes on to an end, and all arcs so far lead to vertices
abbrev pub invariant-loop-next : goal.invariant-loop-next
invariant-loop-next l = (ends_of l.records.items l.next ≡ true) × (leads_of l.records.items l.next ≡ leads_of l.records.items l.fn.first)

-- the rest of the way
abbrev pub decreases-loop-next : goal.decreases-loop-next
decreases-loop-next l = length (numbers_of l.records.items l.next)
