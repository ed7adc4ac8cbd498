use Rattle.std.proofs.Common.{rules}
use Rattle.sgb_file.specs.inner.SavedLines.{arc_texts}
use Rattle.sgb_file.proofs.RecordLines.{next-laid_out}
use Rattle.sgb_file.proofs.saving.short_arcs.ArcsRecordKind.put.Goals as goal

pub returns : goal.returns
returns g c = search (rules, arc_texts, next-laid_out)
