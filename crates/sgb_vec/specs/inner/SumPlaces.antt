-- How many vectors of a bounded sum stand before those that begin with an entry [GB_BASIC, simplex].
use Rattle.std.specs.Prelude.{ℕ, zero, suc, List, ◌∷◌}
use Rattle.sgb_vec.specs.inner.SumRows.{count_of_sum}

-- how many vectors add to n whose first entry is below x, with the bounds after it
abbrev pub count_below : ℕ → ℕ → List ℕ → ℕ
count_below n zero after = 0
count_below n (suc x) after = count_of_sum n (x ∷ after)
