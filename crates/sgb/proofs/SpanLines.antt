-- Lines of the arcs of a span.
use Rattle.std.proofs.Common.{◌≡◌, ◌+◌, ◌≤◌, ◌∙◌, ℕ, [], ◌++◌, drop, length, Some, ap}
use Rattle.std.specs.List.{flat_map, slice_get}
use Rattle.sgb_gen.proofs.SpanArcs.{next-apart, none-left}
use Rattle.sgb_gen.specs.Spans.{SpanData, arc_along, arcs_of_span}
use Rattle.sgb.specs.inner.Locals.{local_line}

-- the next line stands apart
pub next-line : (s : SpanData) (k l : ℕ) → slice_get s.lengths k ≡ Some l
    → flat_map local_line (drop k (arcs_of_span s)) ≡ local_line (arc_along s.sizes s.wrap s.x s.parts l) ++ flat_map local_line (drop (k + 1) (arcs_of_span s))
next-line s k l at = ap (flat_map local_line) (next-apart s k l at)

-- after the last there are none
pub no-lines : (s : SpanData) (k n : ℕ) → n ≡ length s.lengths → n ≤ k → flat_map local_line (drop k (arcs_of_span s)) ≡ []
no-lines s k n count past = ap (flat_map local_line) (none-left s k n count past)
