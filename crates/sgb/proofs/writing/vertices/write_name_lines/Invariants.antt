use Rattle.std.proofs.Common.{◌≡◌, [], false}
use Rattle.sgb_graph.specs.Vertices.{names_of}
use Rattle.sgb.specs.Texts.{name_lines}
use Rattle.sgb.proofs.Pages.{PagedSoFar}
use Rattle.sgb.proofs.writing.vertices.write_name_lines.Given as goal

-- the lines of the vertices from this one on are left
abbrev pub invariant-loop-v : goal.invariant-loop-v
invariant-loop-v g l =
    PagedSoFar (name_lines (names_of l.graph) l.from) (name_lines (names_of l.graph) l.v) [] l.page (g.W.Sink.written l.initial.out) (g.W.Sink.written l.out)
    × (g.W.Sink.has_failed l.out ≡ false)
