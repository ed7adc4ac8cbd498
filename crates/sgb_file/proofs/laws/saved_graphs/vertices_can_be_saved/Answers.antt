use Rattle.std.proofs.Common.{rules, arith}
use Rattle.sgb_graph.specs.Columns.{vertex_seen}
use Rattle.sgb_file.specs.Saved.{VertexCanBeSaved}
use Rattle.sgb_file.proofs.SavedGraphs.{more_hold, all_hold}
use Rattle.sgb_file.proofs.laws.saved_graphs.vertices_can_be_saved.Goals as goal

pub loop-v-preserved : goal.loop-v-preserved
loop-v-preserved c = search (rules, more_hold, vertex_seen)

pub returns : goal.returns
returns c = all_hold VertexCanBeSaved c.args.graph.now.vertices _ (omega arith) c.loop-v.invariant
