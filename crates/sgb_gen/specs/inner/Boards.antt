-- What accepted boards keep.
use Rattle.std.specs.Prelude.{◌≡◌, ℕ, ◌<◌, ◌≤◌, ℤ, nat_abs, List, length}
use Rattle.sgb_vec.specs.Boxes.{product_of}
use Rattle.sgb_vec.specs.Limits.{most_dimensions, most_vertices}
use Rattle.sgb_moves.specs.Limits.{most_piece}

-- four parameters, the sizes and the piece of an accepted board: not too many dimensions, vertices or steps, and
-- a piece
pub record IsAccepted (params : List ℤ) (sizes : List ℕ) (piece : ℤ) : Type 0 where
  pub parameters : length params ≡ 4
  pub dimensions : length sizes ≤ most_dimensions
  pub vertices : product_of sizes ≤ most_vertices
  pub some_piece : 0 < nat_abs piece
  pub small_piece : nat_abs piece ≤ most_piece
