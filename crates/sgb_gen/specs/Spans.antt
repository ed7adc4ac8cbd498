-- Spans: arcs of a board's vertex by one displacement, of some lengths in turn.
use Rattle.std.specs.Prelude.{◌≡◌, ◌+◌, ◌*◌, ℕ, ℤ, pos, List, length, map, slice_get, Some}
use Rattle.sgb_vec.specs.Boxes.{box}
use Rattle.sgb_gen.specs.LocalLists.{LocalArc}
use Rattle.sgb_gen.specs.VectorGraphs.{vertex_among}
use Rattle.sgb_moves.specs.MovedCoordinates.{parts_of, parts_put}

-- a span: the sizes of the board and which of its sides wrap around, the vector, the coordinates that are moved, and the lengths
pub record SpanData : Type 0 where
  pub sizes : List ℕ
  pub wrap : ℤ
  pub x : List ℕ
  pub parts : List (ℕ × ℤ)
  pub lengths : List ℕ

-- the arc from x by a displacement that moves these coordinates, of length l
abbrev pub arc_along : List ℕ → ℤ → List ℕ → List (ℕ × ℤ) → ℕ → LocalArc
arc_along sizes wrap x parts l = record { tip = parts_put sizes wrap x l parts x; len = pos l }

-- the arcs of a span
abbrev pub arcs_of_span : SpanData → List LocalArc
arcs_of_span s = map (arc_along s.sizes s.wrap s.x s.parts) s.lengths

-- the coordinates that a displacement of so many entries moves
abbrev pub AreMoved : ℕ → List (ℕ × ℤ) → Type 0
AreMoved width parts = (t : List ℤ) × (length t ≡ width) × (parts ≡ parts_of t)

-- the arcs of a span lead to vertices that are equally far apart: to this one first, and then to one that is so many places before
abbrev pub FallBy : SpanData → ℕ → ℕ → Type 0
FallBy s first stride = (k l : ℕ) → slice_get s.lengths k ≡ Some l → vertex_among (box s.sizes) (parts_put s.sizes s.wrap s.x l s.parts s.x) + k * stride ≡ first
