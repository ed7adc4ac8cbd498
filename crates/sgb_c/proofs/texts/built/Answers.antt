use Rattle.sgb_expr.specs.Expression.{expression_of}
use Rattle.sgb_c.proofs.Named.{built_other, built_value}
use Rattle.sgb_c.proofs.texts.built.Goals as goal

pub returns-in-Ok-clause-value : goal.returns-in-Ok-clause-value
returns-in-Ok-clause-value c = built_value c.args.input.now (expression_of c.args.expression.now) c.in-Ok.graph c.packed.result c.in-Ok.ensures.value c.packed.ensures.graph

pub returns-in-Ok-clause-other : goal.returns-in-Ok-clause-other
returns-in-Ok-clause-other c = built_other c.args.input.now (expression_of c.args.expression.now) c.in-Ok.graph c.packed.result c.in-Ok.ensures.value c.packed.ensures.memory
