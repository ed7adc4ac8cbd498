-- What the program writes: a line for each vertex, with its name and its distance from the first one.
use Rattle.std.specs.Prelude.{◌≡◌, ℕ, ◌-◌, List, [], ◌∷◌, ◌++◌, length, decimal, Option, None, Result, Ok, Err}
use Rattle.std.specs.List.{flat_map, range_with_len, slice_index_or}
use Rattle.std.specs.Option.{option_map_or}
use Rattle.sgb_vec.specs.declared.panics.Panic.{Panic}
use Rattle.sgb_graph.specs.Graphs.{GraphData}
use Rattle.sgb_graph.specs.Vertices.{names_of}
use Rattle.sgb_requests.specs.declared.faults.Fault.{Fault}
use Rattle.sgb_requests.specs.declared.faults.Fault.TheVariants as fault
use Rattle.sgb_levels.specs.Distances.{AreDistances}

-- a line: a vertex's name, a space (32), its distance in decimal, or `-` (45) where there is none, and a newline (10)
unfoldable pub line_of_level : List ℕ → Option ℕ → List ℕ
line_of_level name distance = name ++ ((32 ∷ []) ++ (option_map_or decimal distance (45 ∷ []) ++ (10 ∷ [])))

-- the lines of the vertices from vertex k on
unfoldable pub level_lines : List (List ℕ) → List (Option ℕ) → ℕ → List ℕ
level_lines names distances k =
    flat_map (λ v. line_of_level (slice_index_or names v []) (slice_index_or distances v None)) (range_with_len k (length names - k))

-- what the program answers where the graph is this one, or why it is refused: the lines of the distances from vertex 0
abbrev pub IsLevelsAnswer : Result GraphData Panic → Result (List ℕ) Fault → Type 0
IsLevelsAnswer (Ok g) (Ok text) = (distances : List (Option ℕ)) × AreDistances g 0 distances × (text ≡ level_lines (names_of g) distances 0)
IsLevelsAnswer (Err p) (Err f) = f ≡ fault.Panic p
IsLevelsAnswer _ _ = ⊥
