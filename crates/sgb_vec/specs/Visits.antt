-- How many coordinates a walk visits.
use Rattle.std.specs.Prelude.{ℕ, ◌+◌, ◌*◌, ◌≤◌, ◌==◌, not, List, length, filter}
use Rattle.std.specs.List.{zip}

-- at how many places the two vectors have different entries
abbrev pub changed_entries : List ℕ → List ℕ → ℕ
changed_entries v w = length (filter (λ p. not (p.0 == p.1)) (zip v w))

-- a count of visits has grown by at least `changed`, and by no more than two for each of the entries
abbrev pub HasVisited : ℕ → ℕ → ℕ → ℕ → Type 0
HasVisited entries changed before after = (before + changed ≤ after) × (after ≤ before + 2 * entries)
