use Rattle.std.proofs.Common.{◌≡◌, ◌+◌, ◌-◌, length}
use Rattle.std.specs.Prelude.{slice_index}
use Rattle.sgb_arrays.specs.Runs.{parts_of}
use Rattle.sgb_arrays.specs.inner.PartsLeft.{parts_left}
use Rattle.sgb_arrays.specs.inner.Puts.{put_from}
use Rattle.sgb_arrays.proofs.NameLines.{line_at}
use Rattle.sgb_arrays.proofs.name_lines.put_lines.Given as goal

-- the lines of the names from this one on are still to be put
abbrev pub invariant-loop-v : goal.invariant-loop-v
invariant-loop-v l = record {
  lines : put_from l.at (parts_left (line_at l.starts l.names) (length l.starts - 1) l.v) l.lines ≡ put_from 0 (parts_of (line_at l.starts l.names) 0 (length l.starts - 1)) l.fn.lines;
  end : l.at + length (parts_left (line_at l.starts l.names) (length l.starts - 1) l.v) ≡ length (parts_of (line_at l.starts l.names) 0 (length l.starts - 1));
  place : l.at ≡ slice_index l.starts l.v + l.v;
  places : length l.lines ≡ length l.fn.lines;
}
