use Rattle.std.proofs.Common.{◌≡◌, rules, sym}
use Rattle.sgb_vec.specs.Limits.{most_bytes}
use Rattle.sgb_file.specs.inner.LinesLeft.{text_left}
use Rattle.sgb_file.proofs.StringReading.{text_found}
use Rattle.sgb_file.proofs.reading.strings.broken_text.Goals as goal

pub returns-clause-found : goal.returns-clause-found
returns-clause-found c =
    let same : c.as_slice.result.now ≡ c.gather.new.bytes.items = search rules in
    rw (c.in_ok-gather.ensures.whole most_bytes, sym same)
    (text_found c.as_slice.result.now (text_left c.gather.new.lines) c.new.result c.new.ensures.ok c.new.ensures.refused c.new.ensures.err)
