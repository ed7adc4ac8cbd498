use Rattle.std.proofs.Common.{arith}
use Rattle.sgb_file.specs.Saved.{ArcCanBeSaved}
use Rattle.sgb_file.proofs.SavedGraphs.{all_hold}
use Rattle.sgb_file.proofs.laws.saved_graphs.records_can_be_saved.Goals as goal

pub returns : goal.returns
returns c = all_hold ArcCanBeSaved c.args.graph.now.records _ (omega arith) c.loop-k.invariant
