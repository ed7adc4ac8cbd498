-- How large a text may be that is read.
use Rattle.std.specs.Prelude.{◌≤◌, ◌<◌, ◌+◌, ◌==◌, ℕ, List, length, take, count_by}

-- some prefix of the text has over 64 more `(` (40) than `)` (41)
abbrev pub IsDeep : List ℕ → Type 0
IsDeep text =
    (k : ℕ) × (k ≤ length text) × (count_by (λ byte. byte == 41) (take k text) + 64 < count_by (λ byte. byte == 40) (take k text))
