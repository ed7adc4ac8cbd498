-- The limits of vectors, names and vertex sets, each stated in this one place.
use Rattle.std.specs.Prelude.{ℕ}

-- a board, and each other family, has at most this many dimensions
abbrev pub most_dimensions : ℕ
most_dimensions = 250

-- a graph has at most this many vertices
abbrev pub most_vertices : ℕ
most_vertices = 1_000_000_000

-- the greatest number that an entry of a vector may be
abbrev pub most_entry : ℕ
most_entry = 4_294_967_295

-- a name has at most this many bytes
abbrev pub most_bytes : ℕ
most_bytes = 4_095
