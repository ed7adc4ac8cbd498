use Rattle.std.proofs.Common.{◌≡◌, false}
use Rattle.sgb_graph.specs.Vertices.{names_of}
use Rattle.sgb_file.proofs.SoFar.{SoFar}
use Rattle.sgb_levels.specs.Lines.{level_lines}
use Rattle.sgb_levels.proofs.runs.write_lines.Given as goal

-- the lines of the vertices from this one on are left
abbrev pub invariant-loop-v : goal.invariant-loop-v
invariant-loop-v g l =
    SoFar (level_lines (names_of l.graph) l.distances 0) (level_lines (names_of l.graph) l.distances l.v) (g.W.Sink.written l.initial.out) (g.W.Sink.written l.out)
    × (g.W.Sink.has_failed l.out ≡ false)
