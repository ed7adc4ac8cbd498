use Rattle.std.proofs.Common.{rules}
use Rattle.sgb_graph.proofs.FitColumns.{records_fit_by}
use Rattle.sgb_graph.proofs.records.Records.fit.Goals as goal

pub returns : goal.returns
returns c = search (rules, records_fit_by)
