use Rattle.std.proofs.Common.{rules}
use Rattle.sgb_file.specs.Saving.{pieces_of, record_lines}
use Rattle.sgb_file.proofs.LaidOutText.{laid_out_are_short, short_lines, broken_further}
use Rattle.sgb_file.proofs.laws.line_bytes_law.Goals as goal

pub returns : goal.returns
returns c = search (rules, broken_further, laid_out_are_short, pieces_of, record_lines, short_lines)
