use Rattle.std.proofs.Common.{length, rules}
use Rattle.sgb_graph.proofs.KeptRecords.{length-kept_records, lead-records_with}
use Rattle.sgb_graph.specs.inner.Columns.{values}
use Rattle.sgb_graph.specs.inner.KeptRecords.{plain_records}
use Rattle.sgb_graph.proofs.records.Records.lead.Goals as goal

pub at-plain-requires : goal.at-plain-requires
at-plain-requires c = search (rules, length-kept_records)

pub returns : goal.returns
returns c =
    let r = c.self.inside in
    let ps = plain_records r.plain in
    let n = length ps in
    let at = lead-records_with ps (values n r.a) (values n r.b) c.args.k c.at-plain.result (search rules) (search rules) (search (rules, length-kept_records)) c.at-plain.ensures in
    search rules
