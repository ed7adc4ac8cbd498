-- The least of some lengths of arcs.
use Rattle.std.specs.Prelude.{ℤ, pos, List, [], ◌∷◌, fold}
use Rattle.std.specs.Int.{int_min}

-- the least of some lengths (0 where there is none)
abbrev pub least_of : List ℤ → ℤ
least_of [] = pos 0
least_of (a ∷ lengths) = fold int_min a lengths
