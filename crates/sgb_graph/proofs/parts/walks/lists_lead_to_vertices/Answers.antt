use Rattle.std.proofs.lemmas.Grind.{common_steps}
use Rattle.std.proofs.Common.{arith, rules}
use Rattle.sgb_vec.proofs.SumRowLemmas.{take_written}
use Rattle.sgb_graph.specs.inner.Walks.{MarksLead}
use Rattle.sgb_graph.proofs.WalkedLists.{list_ends, one_leads_astray, one_more_leads}
use Rattle.sgb_graph.proofs.parts.walks.lists_lead_to_vertices.Goals as goal

pub way_leads-requires-clause-ends : goal.way_leads-requires-clause-ends
way_leads-requires-clause-ends c = search (rules, list_ends)

pub returns-then-not-way_leads : goal.returns-then-not-way_leads
returns-then-not-way_leads c = search (rules, one_leads_astray)

pub mark_way-requires-clause-ends : goal.mark_way-requires-clause-ends
mark_way-requires-clause-ends c = search (rules, list_ends)

pub loop-v-preserved : goal.loop-v-preserved
loop-v-preserved c = search (rules, take_written, MarksLead, one_more_leads)

pub loop-v-init : goal.loop-v-init
loop-v-init c = grind (arith, common_steps)

pub returns : goal.returns
returns c = grind (arith, common_steps)
