-- What two graphs with integers after them are in the code.
use Rattle.sgb_expr.specs.Expression.{expression_of}
use Rattle.sgb_expr.specs.inner.Operations.{Operands}
use Rattle.sgb_expr.specs.declared.operations.TwoGraphs.{TwoGraphs}

-- the expressions that they hold, and the integers
abbrev pub operands_of : TwoGraphs → Operands
operands_of graphs = record { first = expression_of graphs.first.value; second = expression_of graphs.second.value; numbers = graphs.numbers }
