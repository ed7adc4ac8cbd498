-- What is left of a walk through the lists or the names of so many vertices.
use Rattle.std.specs.Prelude.{ℕ, ◌-◌, List, length, map}
use Rattle.std.specs.List.{flat_map, range_with_len}
use Rattle.sgb_arrays.specs.Lists.{starts_from}

-- what there is for the vertices from this one on, one after another
unfoldable pub parts_left : {X : Type 0} → (ℕ → List X) → ℕ → ℕ → List X
parts_left parts n v = flat_map parts (range_with_len v (n - v))

-- where that of each starts, from this place on
unfoldable pub starts_left : {X : Type 0} → (ℕ → List X) → ℕ → ℕ → ℕ → List ℕ
starts_left parts n v at = starts_from at (map (λ u. length (parts u)) (range_with_len v (n - v)))
