use Rattle.sgb_file.specs.FileLines.{clean_lines}
use Rattle.sgb_file.proofs.LinesLeftLemmas.{start_passed}
use Rattle.sgb_file.proofs.reading.lines.Lines.new.Goals as goal

pub begin-requires : goal.begin-requires
begin-requires c = start_passed (clean_lines c.args.bytes.now)
