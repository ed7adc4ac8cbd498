use Rattle.std.proofs.Common.{◌≡◌, ◌⊎◌, length, true, IsTrue}
use Rattle.sgb_graph.specs.Graphs.{ends_of, numbers_of}
use Rattle.sgb_graph.specs.inner.Walks.{leads_of, is_marked, MarksEnd, MarksGoOn, MarksLead}
use Rattle.sgb_graph.proofs.MarkedWays.{MarksReach}
use Rattle.sgb_graph.proofs.parts.walks.mark_way.Given as goal

-- the way goes on to an end; what holds of marked records holds with the
-- marks so far, which reach from the first record to the next one
abbrev pub invariant-loop-next : goal.invariant-loop-next
invariant-loop-next l = record {
  long : length l.marks ≡ length l.records.items;
  ends : ends_of l.records.items l.next ≡ true;
  leads : leads_of l.records.items l.fn.first ≡ true → leads_of l.records.items l.next ≡ true;
  marks_end : MarksEnd l.records.items l.fn.marks → MarksEnd l.records.items l.marks;
  marks_lead : MarksLead l.records.items l.fn.marks → IsTrue (leads_of l.records.items l.fn.first) → MarksLead l.records.items l.marks;
  first : (l.fn.first ≡ l.next) ⊎ IsTrue (is_marked l.marks l.fn.first);
  reach : MarksGoOn l.records.items l.fn.marks → MarksReach l.records.items l.marks l.next;
}

-- the rest of the way
abbrev pub decreases-loop-next : goal.decreases-loop-next
decreases-loop-next l = length (numbers_of l.records.items l.next)
