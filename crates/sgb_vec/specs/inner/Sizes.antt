-- Sizes that are too great for an entry of a vector.
use Rattle.std.specs.Prelude.{ℕ, Bool, List, nat_lt}
use Rattle.std.specs.List.{list_any}
use Rattle.sgb_vec.specs.Limits.{most_entry}

-- some size is above 4,294,967,295
abbrev pub has_great_size : List ℕ → Bool
has_great_size sizes = list_any (λ n. nat_lt most_entry n) sizes
