-- The limit of pieces, stated in this one place.
use Rattle.std.specs.Prelude.{ℕ}

-- the piece of a board is at most this number, and at least its negative
abbrev pub most_piece : ℕ
most_piece = 2_147_483_647
