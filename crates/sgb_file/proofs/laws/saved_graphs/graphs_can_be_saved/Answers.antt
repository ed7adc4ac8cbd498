use Rattle.std.proofs.Common.{rules}
use Rattle.sgb_file.proofs.SavedGraphs.{six_fields}
use Rattle.sgb_file.proofs.laws.saved_graphs.graphs_can_be_saved.Goals as goal

pub graph_fields-requires : goal.graph_fields-requires
graph_fields-requires c = search (rules, six_fields)
