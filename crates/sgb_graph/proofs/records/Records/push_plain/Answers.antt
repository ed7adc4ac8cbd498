use Rattle.std.proofs.Common.{rules}
use Rattle.std.proofs.lemmas.Int.{to_z-of_z}
use Rattle.sgb_graph.specs.Graphs.{arc_record}
use Rattle.sgb_graph.specs.inner.KeptRecords.{KeptRecords, kept_records}
use Rattle.sgb_graph.proofs.KeptRecords.{kept_records-push_plain, record_with-is}
use Rattle.sgb_graph.proofs.records.Records.push_plain.Goals as goal

pub returns-clause-ok : goal.returns-clause-ok
returns-clause-ok c = search (rules, arc_record, to_z-of_z, record_with-is, kept_records, kept_records-push_plain, KeptRecords)
