use Rattle.std.proofs.Common.{length}
use Rattle.std.specs.Prelude.{◌≡◌, ◌+◌}
use Rattle.std.proofs.lemmas.Result.{on_ok_weaker}
use Rattle.sgb_arrays.specs.OpenGraphs.{IsListed, graph_open}
use Rattle.sgb_arrays.proofs.CopiedRuns.{names_copied, names_refused}
use Rattle.sgb_arrays.specs.declared.open_graphs.OpenGraph.TheVariants.{Listed}
use Rattle.sgb_arrays.proofs.open_graphs.open_runs.fill_local_names.Goals as goal

pub returns-in-Ok-clause-filled : goal.returns-in-Ok-clause-filled
returns-in-Ok-clause-filled c =
    let (there, are) = c.in-Ok.ensures.names in
    on_ok_weaker c.copy_to.result (names_copied (graph_open (Listed c.args.local.now)) c.args.first c.args.count c.in-Ok.names are c.args.starts.now c.args.bytes.now c.copy_to.new.starts c.copy_to.new.bytes there) c.copy_to.ensures.copied

pub returns-in-Ok-clause-refused : goal.returns-in-Ok-clause-refused
returns-in-Ok-clause-refused c =
    let (there, are) = c.in-Ok.ensures.names in
    names_refused (graph_open (Listed c.args.local.now)) c.args.first c.args.count c.in-Ok.names are c.args.starts.now c.args.bytes.now (IsListed (Listed c.args.local.now) × (length c.args.starts.now ≡ c.args.count + 1)) c.copy_to.result c.copy_to.new.starts c.copy_to.new.bytes there c.copy_to.ensures.refused
