-- A uniform draw within so many draws.
use Rattle.std.specs.Prelude.{ℕ, ◌%◌, Option, option_map}
use Rattle.sgb_graph.specs.Draws.{draw, first_taken}

-- the uniform draw below m from draw k on, where it comes within so many draws
abbrev pub uniform_within : ℕ → ℕ → ℕ → ℕ → Option ℕ
uniform_within seed m k many = option_map (λ t. draw seed t % m) (first_taken seed m k many)
