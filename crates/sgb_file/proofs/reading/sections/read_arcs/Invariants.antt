use Rattle.std.proofs.Common.{◌≡◌, ◌≤◌, ◌-◌}
use Rattle.sgb_file.specs.inner.LinesLeft.{text_left}
use Rattle.sgb_file.specs.inner.Reading.{arcs_at}
use Rattle.sgb_file.proofs.reading.sections.read_arcs.Given as goal

-- with the arc records that are left the parts are as with all
abbrev pub invariant-loop-k : goal.invariant-loop-k
invariant-loop-k l =
    (arcs_at l.head l.parts (l.head.counts.arcs - l._k) (text_left l.lines) ≡ arcs_at l.fn.head l.fn.parts l.fn.head.counts.arcs (text_left l.fn.lines))
    × (l.lines.all ≡ l.fn.lines.all) × (l._k ≤ l.head.counts.arcs)
