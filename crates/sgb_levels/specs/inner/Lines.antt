-- The line of one vertex, and its distance.
use Rattle.std.specs.Prelude.{ℕ, List, [], ◌∷◌, Option, None, decimal}
use Rattle.std.specs.List.{slice_index_or}
use Rattle.std.specs.Option.{option_map_or}
use Rattle.sgb_levels.specs.Lines.{line_of_level}

-- a distance in decimal, or `-` (45) where there is none
abbrev pub distance_text : Option ℕ → List ℕ
distance_text distance = option_map_or decimal distance (45 ∷ [])

-- the line of vertex v
abbrev pub level_line : List (List ℕ) → List (Option ℕ) → ℕ → List ℕ
level_line names distances v = line_of_level (slice_index_or names v []) (slice_index_or distances v None)
