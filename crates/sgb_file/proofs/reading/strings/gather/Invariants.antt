use Rattle.std.proofs.Common.{◌≡◌, length}
use Rattle.sgb_file.specs.inner.LinesLeft.{text_left}
use Rattle.sgb_file.proofs.StringReading.{IsGathered}
use Rattle.sgb_file.proofs.reading.strings.gather.Given as goal

abbrev pub invariant-loop-closed : goal.invariant-loop-closed
invariant-loop-closed l = record {
  so_far : IsGathered l.fn.first (text_left l.fn.lines) l.closed l.bytes.items (text_left l.lines);
  all : l.lines.all ≡ l.fn.lines.all;
}

abbrev pub decreases-loop-closed : goal.decreases-loop-closed
decreases-loop-closed l = length (text_left l.lines)
