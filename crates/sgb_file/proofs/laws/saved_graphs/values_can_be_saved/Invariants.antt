use Rattle.sgb_graph.specs.Columns.{util_seen}
use Rattle.sgb_file.specs.Saved.{ValueCanBeSaved}
use Rattle.sgb_file.proofs.SavedGraphs.{HoldsOfFirst}
use Rattle.sgb_file.proofs.laws.saved_graphs.values_can_be_saved.Given as goal

-- the values read so far can be saved
abbrev pub invariant-loop-value : goal.invariant-loop-value
invariant-loop-value l = HoldsOfFirst (λ v. ValueCanBeSaved (util_seen v)) l.values l.value-index
