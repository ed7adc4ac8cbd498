-- Lengths one after another, from the shortest or from the longest on.
use Rattle.std.specs.Prelude.{◌≡◌, ◌<◌, ◌≤◌, ℕ, ◌+◌, ◌-◌, ◌*◌, ℤ, Bool, List, map, reverse, slice_get, Some, if◌then◌else◌}
use Rattle.std.specs.List.{range_with_len}
use Rattle.sgb_vec.specs.Boxes.{box}
use Rattle.sgb_vec.specs.Limits.{most_vertices}
use Rattle.sgb_gen.specs.LocalLists.{LocalArc}
use Rattle.sgb_gen.specs.Spans.{SpanData, arc_along}
use Rattle.sgb_gen.specs.VectorGraphs.{vertex_among}
use Rattle.sgb_moves.specs.MovedCoordinates.{parts_put}
use Rattle.sgb_moves.specs.inner.MovedCoordinates.{AgreeBut}

-- the lengths above one up to another one
abbrev pub lengths_between : Bool → ℕ → ℕ → List ℕ
lengths_between rising from to = if rising then range_with_len (from + 1) (to - from) else reverse (range_with_len (from + 1) (to - from))

-- the arcs from x by a displacement that moves these coordinates, of the lengths from 1 up to n
abbrev pub arcs_along : List ℕ → ℤ → List ℕ → List (ℕ × ℤ) → ℕ → List LocalArc
arcs_along sizes wrap x parts n = map (arc_along sizes wrap x parts) (range_with_len 1 n)

-- a vector is that of a span but for the coordinates that are moved
abbrev pub IsBesides : SpanData → List ℕ → Type 0
IsBesides s v = AgreeBut (map (λ p. p.0) s.parts) v s.x

-- the vertex where the arc from x of length l leads
abbrev pub vertex_along : List ℕ → ℤ → List ℕ → List (ℕ × ℤ) → ℕ → ℕ
vertex_along sizes wrap x parts l = vertex_among (box sizes) (parts_put sizes wrap x l parts x)

-- the arcs of the lengths up to n lead so many places on for each unit of length
abbrev pub LeadOn : List ℕ → ℤ → List ℕ → List (ℕ × ℤ) → ℕ → ℕ → Type 0
LeadOn sizes wrap x parts n stride = (v l : ℕ) → slice_get (box sizes) v ≡ Some x → 0 < l → l ≤ n
    → (vertex_along sizes wrap x parts l ≡ v + l * stride) × (v + l * stride < most_vertices)

-- they lead so many places back
abbrev pub LeadBack : List ℕ → ℤ → List ℕ → List (ℕ × ℤ) → ℕ → ℕ → Type 0
LeadBack sizes wrap x parts n stride = (v l : ℕ) → slice_get (box sizes) v ≡ Some x → 0 < l → l ≤ n
    → vertex_along sizes wrap x parts l + l * stride ≡ v
