use Rattle.std.proofs.Common.{◌≡◌, ◌≤◌, ◌-◌}
use Rattle.sgb_file.specs.inner.LinesLeft.{text_left}
use Rattle.sgb_file.specs.inner.Reading.{vertices_at}
use Rattle.sgb_file.proofs.reading.sections.read_vertices.Given as goal

-- with the vertices that are left the parts are as with all
abbrev pub invariant-loop-v : goal.invariant-loop-v
invariant-loop-v l =
    (vertices_at l.head l.parts (l.head.counts.vertices - l._v) (text_left l.lines) ≡ vertices_at l.fn.head l.fn.parts l.fn.head.counts.vertices (text_left l.fn.lines))
    × (l.lines.all ≡ l.fn.lines.all) × (l._v ≤ l.head.counts.vertices)
