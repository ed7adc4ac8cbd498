use Rattle.std.proofs.Common.{ℕ, drop}
use Rattle.sgb_gen.specs.Spans.{arcs_of_span}
use Rattle.sgb_gen.proofs.ArcsInTurn.{TakenSoFar}
use Rattle.sgb_arrays.specs.declared.rows.Rows.{Rows}
use Rattle.sgb_arrays.specs.inner.PlacedArcs.{PutsArcs}
use Rattle.sgb_arrays.proofs.placed_arcs.PlacedArcsArcSinkRowsUnit.put_span.Given as goal

-- the arcs from this one on are still to come
abbrev pub invariant-loop-k : goal.invariant-loop-k
invariant-loop-k g l =
    TakenSoFar {R = Rows} {S = ℕ} (λ old _ arcs new _. PutsArcs (g.P.VectorPlaces.vectors l.self.places.now) old arcs new) (arcs_of_span l.span) (drop l.k (arcs_of_span l.span)) l.fn.rows 0 l.rows 0
