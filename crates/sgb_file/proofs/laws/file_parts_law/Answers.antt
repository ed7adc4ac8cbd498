use Rattle.sgb_file.specs.FileLines.{text_of_lines}
use Rattle.sgb_file.specs.inner.Heads.{head_of}
use Rattle.sgb_file.proofs.ReadParts.{first_is_good, parts_can_be_checked, read_can_be_saved}
use Rattle.sgb_file.proofs.RefusedTexts.{read_from_file}
use Rattle.sgb_file.proofs.laws.file_parts_law.Goals as goal

pub returns-clause-parts : goal.returns-clause-parts
returns-clause-parts c line g records first are = parts_can_be_checked g (text_of_lines records) (first_is_good line (head_of g) first) are

pub returns-clause-saved : goal.returns-clause-saved
returns-clause-saved c g text is = read_can_be_saved g text (read_from_file g text is)
