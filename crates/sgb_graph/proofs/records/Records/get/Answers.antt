use Rattle.std.proofs.Common.{rules}
use Rattle.std.proofs.lemmas.Int.{to_z-of_z}
use Rattle.sgb_graph.proofs.ColumnValues.{HasPlace-below}
use Rattle.sgb_graph.proofs.KeptRecords.{length-kept_records, slice_get-records_with}
use Rattle.sgb_graph.specs.Columns.{util_seen}
use Rattle.sgb_graph.specs.inner.Columns.{values}
use Rattle.sgb_graph.proofs.records.Records.get.Goals as goal

pub at-plain-requires : goal.at-plain-requires
at-plain-requires c = search (rules, length-kept_records)

pub get-requires : goal.get-requires
get-requires c = search (rules, length-kept_records, HasPlace-below)

pub get-requires-2 : goal.get-requires-2
get-requires-2 c = search (rules, length-kept_records, HasPlace-below)

pub returns : goal.returns
returns c = search (rules, length-kept_records, slice_get-records_with, values, util_seen, to_z-of_z)
