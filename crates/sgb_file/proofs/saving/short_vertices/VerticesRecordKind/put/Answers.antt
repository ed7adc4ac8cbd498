use Rattle.std.proofs.Common.{rules}
use Rattle.sgb_file.specs.inner.SavedLines.{vertex_texts}
use Rattle.sgb_file.proofs.RecordLines.{next-laid_out}
use Rattle.sgb_file.proofs.saving.short_vertices.VerticesRecordKind.put.Goals as goal

pub returns : goal.returns
returns g c = search (rules, next-laid_out, vertex_texts)
