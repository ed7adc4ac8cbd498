use Rattle.sgb_file.proofs.WrittenFiles.{written_is_file}
use Rattle.sgb_file.proofs.laws.written_is_read_law.Goals as goal

pub returns : goal.returns
returns c = written_is_file
