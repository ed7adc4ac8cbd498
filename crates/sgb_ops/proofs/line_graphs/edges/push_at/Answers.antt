use Rattle.std.proofs.Common.{rules}
use Rattle.sgb_ops.proofs.LineLists.{one_listed}
use Rattle.sgb_ops.proofs.line_graphs.edges.push_at.Goals as goal

pub returns-clause-ok : goal.returns-clause-ok
returns-clause-ok c = search (rules, one_listed)
