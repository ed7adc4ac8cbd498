-- Parts that stand one after another.
use Rattle.std.specs.Prelude.{ℕ, suc, ◌+◌, List, [], ◌∷◌, slice_index, slice_range}

-- where parts of these sizes start, one after another from this place on, and then where the last one ends
abbrev pub starts_from : ℕ → List ℕ → List ℕ
starts_from at [] = at ∷ []
starts_from at (size ∷ sizes) = at ∷ starts_from (at + size) sizes

-- part number v of a list whose parts start there: from its start up to the next one
abbrev pub part_by_starts : {X : Type 0} → List X → List ℕ → ℕ → List X
part_by_starts xs starts v = slice_range xs (slice_index starts v) (slice_index starts (suc v))
