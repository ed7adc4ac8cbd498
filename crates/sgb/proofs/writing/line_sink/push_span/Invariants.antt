use Rattle.std.proofs.Common.{◌≡◌, false, drop}
use Rattle.std.specs.List.{flat_map}
use Rattle.sgb_gen.specs.Spans.{arcs_of_span}
use Rattle.sgb.specs.inner.Locals.{local_line}
use Rattle.sgb.proofs.Pages.{PagedSoFar}
use Rattle.sgb.proofs.writing.line_sink.push_span.Given as goal

-- the lines of the arcs from this one on are left
abbrev pub invariant-loop-k : goal.invariant-loop-k
invariant-loop-k g l =
    PagedSoFar (flat_map local_line (arcs_of_span l.span)) (flat_map local_line (drop l.k (arcs_of_span l.span))) l.fn.page l.page (g.W.Sink.written l.fn.out) (g.W.Sink.written l.out)
    × (g.W.Sink.has_failed l.out ≡ false)
