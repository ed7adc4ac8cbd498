-- Values put into a list from a place on.
use Rattle.std.specs.Prelude.{ℕ, ◌+◌, List, [], ◌∷◌}
use Rattle.std.specs.List.{slice_set}

-- the list with these values from a place on
abbrev pub put_from : {X : Type 0} → ℕ → List X → List X → List X
put_from at [] old = old
put_from at (x ∷ xs) old = put_from (at + 1) xs (slice_set old at x)
