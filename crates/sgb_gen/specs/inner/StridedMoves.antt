-- Moves by a displacement that lead by equal strides.
use Rattle.std.specs.Prelude.{◌≡◌, ◌<◌, ◌≤◌, ◌+◌, ◌*◌, ℕ, ℤ, pos, true, false, List, map}
use Rattle.std.specs.List.{range_with_len}
use Rattle.sgb_vec.specs.Boxes.{product_of}
use Rattle.sgb_vec.specs.Limits.{most_vertices}
use Rattle.sgb_graph.specs.Events.{Event}
use Rattle.sgb_gen.specs.Boards.{BoardData}
use Rattle.sgb_moves.specs.Moves.{sides_of}
use Rattle.sgb_moves.specs.inner.MovedCoordinates.{parts_stay}
use Rattle.sgb_moves.specs.inner.Moves.{leads_onward, longest_move}
use Rattle.sgb_gen.specs.inner.Strides.{stride_of}

-- from x the piece goes so many lengths on by these coordinates that it moves, and no farther
pub record IsFarthest (b : BoardData) (x : List ℕ) (parts : List (ℕ × ℤ)) (n : ℕ) : Type 0 where
  pub within : n ≤ longest_move (sides_of b.sizes b.wrap) b.piece
  pub stay : (l : ℕ) → l ≤ n → parts_stay b.sizes b.wrap x l parts ≡ true
  pub end : n < longest_move (sides_of b.sizes b.wrap) b.piece → parts_stay b.sizes b.wrap x (n + 1) parts ≡ false

-- no side wraps around, and the displacement leads to later vectors: a unit of length so many vertices on
pub record LeadsOn (b : BoardData) (t : List ℤ) (places : ℕ) : Type 0 where
  pub flat : b.wrap ≡ pos 0
  pub onward : leads_onward b.wrap 0 t ≡ true
  pub stride : pos places ≡ stride_of b.sizes t
  pub few : product_of b.sizes ≤ most_vertices

-- the move from vertex u of length l, where a unit of length leads so many vertices on
abbrev pub event_of_stride : ℕ → ℕ → ℕ → Event
event_of_stride u places l = record { from = u; to = u + l * places; len = pos l }

-- those of the lengths up to n
abbrev pub events_of_stride : ℕ → ℕ → ℕ → List Event
events_of_stride u places n = map (event_of_stride u places) (range_with_len 1 n)
