use Rattle.sgb_graph.specs.Graphs.{chain_of}
use Rattle.sgb_taken.proofs.Taking.{each_edge_once_leads_up}
use Rattle.sgb_ops.proofs.laws.taken_lead_up.Goals as goal

pub returns : goal.returns
returns c = λ g v. each_edge_once_leads_up v (chain_of g v)
