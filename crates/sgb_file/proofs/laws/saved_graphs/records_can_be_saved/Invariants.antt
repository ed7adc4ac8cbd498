use Rattle.sgb_file.specs.Saved.{ArcCanBeSaved}
use Rattle.sgb_file.proofs.SavedGraphs.{HoldsOfFirst}
use Rattle.sgb_file.proofs.laws.saved_graphs.records_can_be_saved.Given as goal

-- what was read so far can be saved
abbrev pub invariant-loop-k : goal.invariant-loop-k
invariant-loop-k l = HoldsOfFirst ArcCanBeSaved l.graph.records l.k
