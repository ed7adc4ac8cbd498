use Rattle.sgb_file.specs.Saved.{VertexCanBeSaved}
use Rattle.sgb_file.proofs.SavedGraphs.{HoldsOfFirst}
use Rattle.sgb_file.proofs.laws.saved_graphs.vertices_can_be_saved.Given as goal

-- what was read so far can be saved
abbrev pub invariant-loop-v : goal.invariant-loop-v
invariant-loop-v l = HoldsOfFirst VertexCanBeSaved l.graph.vertices l.v
