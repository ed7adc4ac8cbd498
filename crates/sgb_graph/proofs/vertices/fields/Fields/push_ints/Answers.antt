use Rattle.sgb_vec.proofs.Common.{rules}
use Rattle.sgb_graph.proofs.ColumnValues.{values-unused}
use Rattle.sgb_graph.proofs.vertices.fields.Fields.push_ints.Goals as goal

pub returns-clause-values : goal.returns-clause-values
returns-clause-values c n are = search (rules, values-unused)
