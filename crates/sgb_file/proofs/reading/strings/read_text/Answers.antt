use Rattle.std.proofs.Common.{rules}
use Rattle.sgb_vec.specs.Limits.{most_bytes}
use Rattle.sgb_file.specs.inner.LinesLeft.{text_left}
use Rattle.sgb_file.proofs.StringReading.{text_found}
use Rattle.sgb_file.proofs.reading.strings.read_text.Goals as goal

pub returns-then-first-clause-found : goal.returns-then-first-clause-found
returns-then-first-clause-found c = search (rules, most_bytes, text_found, text_left)
