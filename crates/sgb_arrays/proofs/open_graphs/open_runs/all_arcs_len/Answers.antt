use Rattle.std.proofs.Common.{◌∙◌, sym}
use Rattle.sgb_arrays.proofs.AllArcs.{local_arcs}
use Rattle.sgb_arrays.proofs.open_graphs.open_runs.all_arcs_len.Goals as goal

pub returns-in-Some : goal.returns-in-Some
returns-in-Some c = c.in-Some.ensures ∙ sym (local_arcs c.args.local.now)
