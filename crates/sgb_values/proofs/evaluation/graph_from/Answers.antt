use Rattle.sgb_expr.specs.Expression.{expression_of}
use Rattle.sgb_values.proofs.StdinValues.{value_found}
use Rattle.sgb_values.proofs.evaluation.graph_from.Goals as goal

pub returns-clause-value : goal.returns-clause-value
returns-clause-value c =
    value_found c.args.input.items c.owned-owned.result (expression_of c.args.expression.now) c.evaluate.result c.owned-owned.ensures c.evaluate.ensures.value
