use Rattle.std.proofs.Common.{rules}
use Rattle.sgb_graph.proofs.KeptVertices.{length-kept}
use Rattle.sgb_graph.proofs.vertices.Vertices.len.Goals as goal

pub returns-clause-count : goal.returns-clause-count
returns-clause-count c = search (rules, length-kept)
