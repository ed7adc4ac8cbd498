use Rattle.std.proofs.Common.{length}
use Rattle.std.specs.Prelude.{◌≡◌, ◌+◌}
use Rattle.std.proofs.lemmas.Result.{on_ok_weaker}
use Rattle.sgb_arrays.specs.OpenGraphs.{IsListed, graph_open}
use Rattle.sgb_arrays.proofs.CopiedRuns.{tips_copied, tips_refused}
use Rattle.sgb_arrays.specs.declared.open_graphs.OpenGraph.TheVariants.{Listed}
use Rattle.sgb_arrays.proofs.open_graphs.open_runs.fill_local_tips.Goals as goal

pub returns-in-Ok-clause-filled : goal.returns-in-Ok-clause-filled
returns-in-Ok-clause-filled c =
    let (there, are) = c.in-Ok.ensures.rows in
    on_ok_weaker c.copy_tips_to.result (tips_copied (graph_open (Listed c.args.local.now)) c.args.first c.args.count c.in-Ok.rows are c.args.starts.now c.args.tips.now c.in-Ok.rows.lengths.items c.copy_tips_to.new.starts c.copy_tips_to.new.tips there) c.copy_tips_to.ensures.copied

pub returns-in-Ok-clause-refused : goal.returns-in-Ok-clause-refused
returns-in-Ok-clause-refused c =
    let (there, are) = c.in-Ok.ensures.rows in
    tips_refused (graph_open (Listed c.args.local.now)) c.args.first c.args.count c.in-Ok.rows are c.args.starts.now c.args.tips.now c.in-Ok.rows.lengths.items (IsListed (Listed c.args.local.now) × (length c.args.starts.now ≡ c.args.count + 1)) c.copy_tips_to.result c.copy_tips_to.new.starts c.copy_tips_to.new.tips there c.copy_tips_to.ensures.refused
