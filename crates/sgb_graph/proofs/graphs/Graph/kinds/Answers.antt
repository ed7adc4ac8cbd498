use Rattle.std.proofs.Common.{arith}
use Rattle.sgb_graph.proofs.Tables.{six_read}
use Rattle.sgb_graph.proofs.graphs.Graph.kinds.Goals as goal

pub returns : goal.returns
returns c = grind (arith, six_read)
