use Rattle.std.proofs.Common.{rules}
use Rattle.sgb_graph.specs.Graphs.{GraphData}
use Rattle.sgb_graph.specs.Sound.{vertex_kinds}
use Rattle.sgb_graph.proofs.KeptParts.{vertices_fit_same}
use Rattle.sgb_graph.proofs.parts.kept.KeptParts.vertices_fit.Goals as goal

pub returns : goal.returns
returns c = search (rules, vertices_fit_same, GraphData, vertex_kinds)
