use Rattle.std.proofs.Common.{◌≡◌, rules, sym}
use Rattle.sgb_graph.specs.Ids.{most_id_bytes}
use Rattle.sgb_file.specs.inner.LinesLeft.{text_left}
use Rattle.sgb_file.proofs.StringReading.{id_found}
use Rattle.sgb_file.proofs.reading.strings.broken_id.Goals as goal

pub returns-clause-found : goal.returns-clause-found
returns-clause-found c =
    let same : c.as_slice.result.now ≡ c.gather.new.bytes.items = search rules in
    rw (c.in_ok-gather.ensures.whole most_id_bytes, sym same)
    (id_found c.as_slice.result.now (text_left c.gather.new.lines) c.new.result c.new.ensures.ok c.new.ensures.refused c.new.ensures.err)
