use Rattle.std.proofs.Common.{rules}
use Rattle.sgb_graph.proofs.Described.{described_only}
use Rattle.sgb_graph.specs.Descriptions.{IsAnswerOf}
use Rattle.sgb_values.specs.inner.Operands.{graph_held}
use Rattle.sgb_values.proofs.evaluation.list_operations.Operand.graph.Goals as goal

pub returns-in-Listed-clause-ok : goal.returns-in-Listed-clause-ok
returns-in-Listed-clause-ok c = search (rules, described_only, IsAnswerOf, graph_held)
