use Rattle.std.proofs.Common.{rules}
use Rattle.sgb_ops.proofs.JoinedNames.{whole_number}
use Rattle.sgb_ops.proofs.induced_graphs.copied_names.numbered_name.Goals as goal

pub returns-clause-ok : goal.returns-clause-ok
returns-clause-ok c = search (rules, whole_number)
