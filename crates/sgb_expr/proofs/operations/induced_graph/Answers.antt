use Rattle.std.proofs.Common.{rules}
use Rattle.sgb_expr.proofs.CodeExpressions.{induced_made}
use Rattle.sgb_expr.proofs.operations.induced_graph.Goals as goal

pub returns : goal.returns
returns c = induced_made c.args.graph c.args.entries c.args.numbers _ _ _ (search rules) (search rules) (search rules)
