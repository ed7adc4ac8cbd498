use Rattle.std.proofs.Common.{rules, option_map}
use Rattle.sgb_file.specs.Checksum.{checksum_of_lines}
use Rattle.sgb_file.specs.inner.Layouts.{checksum_from, counted_bytes}
use Rattle.sgb_file.specs.inner.LinesLeft.{lines_passed}
use Rattle.sgb_file.proofs.LinesLeftLemmas.{whole_passed}
use Rattle.sgb_file.proofs.reading.lines.Lines.next_line_with.Goals as goal

pub begin-requires : goal.begin-requires
begin-requires c = search (rules, checksum_from, checksum_of_lines, counted_bytes, lines_passed, option_map, whole_passed)
