use Rattle.std.proofs.Common.{rules}
use Rattle.sgb_graph.proofs.KeptRecords.{length-kept_records}
use Rattle.sgb_graph.proofs.records.Records.len.Goals as goal

pub returns-clause-count : goal.returns-clause-count
returns-clause-count c = search (rules, length-kept_records)
