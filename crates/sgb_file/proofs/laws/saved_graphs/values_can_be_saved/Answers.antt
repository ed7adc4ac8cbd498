use Rattle.sgb_vec.proofs.Common.{arith, All-map}
use Rattle.sgb_graph.specs.Columns.{util_seen}
use Rattle.sgb_graph.specs.declared.fields.UtilRef.{UtilRef}
use Rattle.sgb_file.specs.Saved.{ValueCanBeSaved}
use Rattle.sgb_file.proofs.SavedGraphs.{all_hold}
use Rattle.sgb_file.proofs.laws.saved_graphs.values_can_be_saved.Goals as goal

-- what is seen can be saved
abbrev SeenCanBeSaved : UtilRef → Type 0
SeenCanBeSaved v = ValueCanBeSaved (util_seen v)

pub returns : goal.returns
returns c =
    All-map ValueCanBeSaved util_seen c.args.values.now
    (all_hold SeenCanBeSaved c.args.values.now c.loop-value.value-index (omega (arith, c.loop-value-test.false)) c.loop-value.invariant)
