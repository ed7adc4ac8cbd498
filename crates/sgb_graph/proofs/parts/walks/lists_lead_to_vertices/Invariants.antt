use Rattle.std.proofs.Common.{◌≡◌, length, take, true}
use Rattle.sgb_graph.specs.inner.Walks.{MarksLead, lists_lead_to_vertices}
use Rattle.sgb_graph.proofs.parts.walks.lists_lead_to_vertices.Given as goal

-- the lists so far lead to vertices, and so do the ways from marked records
abbrev pub invariant-loop-v : goal.invariant-loop-v
invariant-loop-v l = record {
  long : length l.marks.items ≡ length l.records.items;
  marked : MarksLead l.records.items l.marks.items;
  before : lists_lead_to_vertices (take l.v l.vertices.items) l.records.items ≡ true;
}
