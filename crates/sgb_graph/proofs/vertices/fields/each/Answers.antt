use Rattle.std.proofs.Common.{rules}
use Rattle.sgb_graph.proofs.Tables.{six_of}
use Rattle.sgb_graph.proofs.vertices.fields.each.Goals as goal

pub returns : goal.returns
returns c = search (rules, six_of)
