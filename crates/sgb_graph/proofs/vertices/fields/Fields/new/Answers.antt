use Rattle.std.proofs.Common.{rules}
use Rattle.sgb_graph.proofs.Tables.{six_read}
use Rattle.sgb_graph.proofs.vertices.fields.Fields.new.Goals as goal

pub returns-clause-kinds : goal.returns-clause-kinds
returns-clause-kinds c = search (rules, six_read)
