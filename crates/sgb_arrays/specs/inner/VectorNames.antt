-- The names of a family's vectors, by their places.
use Rattle.std.specs.Prelude.{ℕ, List, [], map}
use Rattle.std.specs.List.{slice_index_or}
use Rattle.sgb_vec.specs.Names.{name_of_vector}

-- the name of the vector at a place
abbrev pub name_there : List (List ℕ) → ℕ → List ℕ
name_there members v = slice_index_or (map name_of_vector members) v []
