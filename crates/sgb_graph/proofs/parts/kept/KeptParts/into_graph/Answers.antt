use Rattle.std.proofs.Common.{rules}
use Rattle.sgb_graph.specs.Graphs.{GraphData}
use Rattle.sgb_graph.specs.Growth.{IsKept, graph_data}
use Rattle.sgb_graph.specs.Sound.{IsGraph}
use Rattle.sgb_graph.proofs.KeptParts.{kept_same}
use Rattle.sgb_graph.proofs.parts.kept.KeptParts.into_graph.Goals as goal

pub from_parts-requires : goal.from_parts-requires
from_parts-requires c = search (rules, GraphData, graph_data, IsGraph, IsKept, kept_same)

pub returns : goal.returns
returns c = search (rules, GraphData, graph_data, IsGraph, kept_same)
