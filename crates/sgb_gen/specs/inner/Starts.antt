-- The starts of the edges that touch a vector that are within a range, and their arcs.
use Rattle.std.specs.Prelude.{ℕ, ℤ, List, reverse}
use Rattle.std.specs.List.{filter}
use Rattle.sgb_vec.specs.Boxes.{box}
use Rattle.sgb_gen.specs.Boards.{BoardData}
use Rattle.sgb_gen.specs.LocalLists.{LocalArc}
use Rattle.sgb_moves.specs.Moves.{opposite, sides_of}
use Rattle.sgb_gen.specs.VectorGraphs.{vertex_among}
use Rattle.sgb_gen.specs.inner.LocalBoards.{arcs_of_starts, starts_of, touching_starts}
use Rattle.sgb_moves.specs.inner.Starts.{is_within}
use Rattle.sgb_moves.specs.declared.start_ranges.StartRange.{StartRange}

-- the starts of the edges that touch x that are within a range
abbrev pub starts_within : BoardData → List ℕ → List ℤ → StartRange → List (ℕ × ℕ)
starts_within b x t r = filter (is_within r) (starts_of (sides_of b.sizes b.wrap) b.piece (box b.sizes) x t)

-- the arcs of x by the edges whose starts are within a range, those of the last start first
abbrev pub arcs_within : BoardData → List ℕ → List ℤ → StartRange → List LocalArc
arcs_within b x t r =
    reverse (arcs_of_starts (sides_of b.sizes b.wrap) b.piece (vertex_among (box b.sizes) x) x t (opposite t)
    (filter (is_within r) (touching_starts (sides_of b.sizes b.wrap) b.piece (box b.sizes) x t)))
