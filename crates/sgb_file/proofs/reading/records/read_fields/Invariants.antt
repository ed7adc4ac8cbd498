use Rattle.std.proofs.Common.{◌≡◌, length}
use Rattle.sgb_file.specs.inner.LinesLeft.{text_left}
use Rattle.sgb_file.specs.inner.ReadRecords.{more_fields_at}
use Rattle.sgb_file.proofs.FoundSteps.{AreReadTo}
use Rattle.sgb_file.proofs.reading.records.read_fields.Given as goal

abbrev pub invariant-loop-place : goal.invariant-loop-place
invariant-loop-place l = record {
  count : length l.fields ≡ 6;
  read : AreReadTo l.counts l.kinds (more_fields_at l.counts l.kinds (text_left l.fn.lines)) l.place l.fields (text_left l.lines);
  all : l.lines.all ≡ l.fn.lines.all;
}
