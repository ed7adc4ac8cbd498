use Rattle.std.proofs.Common.{◌≡◌, length, subst}
use Rattle.std.specs.Prelude.{OnOk}
use Rattle.sgb_file.specs.Saving.{text_of_graph}
use Rattle.sgb_arrays.specs.OpenGraphs.{IsFileRefusal, IsListed}
use Rattle.sgb_arrays.specs.declared.open_graphs.OpenGraph.TheVariants.{Listed}
use Rattle.sgb_arrays.proofs.BuiltGraphs.{file_refused}
use Rattle.std.specs.Prelude.{IfErr}
use Rattle.sgb_arrays.proofs.open_graphs.fill_local_file.Goals as goal

pub returns-in-Ok-clause-filled : goal.returns-in-Ok-clause-filled
returns-in-Ok-clause-filled c =
    subst (λ g. OnOk c.fill_file.result ((length c.args.bytes.now ≡ length (text_of_graph g)) × (c.fill_file.new.bytes ≡ text_of_graph g))) c.in-Ok.ensures.graph c.fill_file.ensures.filled

pub returns-in-Ok-clause-refused : goal.returns-in-Ok-clause-refused
returns-in-Ok-clause-refused c =
    subst (λ g. IfErr c.fill_file.result (λ why. IsFileRefusal g (length c.args.bytes.now) (IsListed (Listed c.args.local.now)) why × (c.fill_file.new.bytes ≡ c.args.bytes.now))) c.in-Ok.ensures.graph
    (file_refused c.in-Ok.graph (length c.args.bytes.now) (c.fill_file.new.bytes ≡ c.args.bytes.now) (IsListed (Listed c.args.local.now)) c.fill_file.result c.fill_file.ensures.refused)
