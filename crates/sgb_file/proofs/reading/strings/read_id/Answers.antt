use Rattle.std.proofs.Common.{rules}
use Rattle.sgb_graph.specs.Ids.{most_id_bytes}
use Rattle.sgb_file.specs.inner.LinesLeft.{text_left}
use Rattle.sgb_file.proofs.StringReading.{id_found}
use Rattle.sgb_file.proofs.reading.strings.read_id.Goals as goal

pub returns-then-first-clause-found : goal.returns-then-first-clause-found
returns-then-first-clause-found c = search (rules, id_found, most_id_bytes, text_left)
