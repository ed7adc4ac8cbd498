use Rattle.std.proofs.Common.{rules}
use Rattle.sgb_graph.specs.inner.KeptVertices.{KeptVertices}
use Rattle.sgb_graph.proofs.AddingArcs.{led_by}
use Rattle.sgb_graph.proofs.Lists.{length-at_place}
use Rattle.sgb_graph.proofs.graphs.adding.put_edge.Goals as goal

pub set_first-requires-2-clause-vertex : goal.set_first-requires-2-clause-vertex
set_first-requires-2-clause-vertex c = search (rules, length-at_place, led_by, KeptVertices)
