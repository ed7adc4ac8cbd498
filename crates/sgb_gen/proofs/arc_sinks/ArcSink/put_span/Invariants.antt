use Rattle.std.proofs.Common.{drop}
use Rattle.sgb_gen.specs.Spans.{arcs_of_span}
use Rattle.sgb_gen.specs.inner.Spans.{IsBesides}
use Rattle.sgb_gen.proofs.ArcsInTurn.{TakenSoFar}
use Rattle.sgb_gen.proofs.arc_sinks.ArcSink.put_span.Given as goal

-- the arcs from this one on are still to come
abbrev pub invariant-loop-k : goal.invariant-loop-k
invariant-loop-k g l =
    TakenSoFar (g.Self.ArcSink.took l.self) (arcs_of_span l.span) (drop l.k (arcs_of_span l.span)) l.fn.room l.fn.out l.room l.out
    × g.Self.ArcSink.ready l.self l.room l.out
    × IsBesides l.span l.there.items
