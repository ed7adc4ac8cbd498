use Rattle.sgb_graph.proofs.ListMembers.{each_on_list, only_on_list, once_on_list}
use Rattle.sgb_graph.proofs.laws.lists_law.Goals as goal

pub returns : goal.returns
returns c = record { each = each_on_list; only = only_on_list; once = once_on_list }
