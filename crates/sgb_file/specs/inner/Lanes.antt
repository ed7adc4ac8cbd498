-- Bytes that are looked at together.
use Rattle.std.specs.Prelude.{ℕ, ◌==◌, if◌then◌else◌}
use Rattle.std.specs.Int.{trailing_zeros, w64}

-- the place of the lowest bit that is set, or 16
abbrev pub first_set : ℕ → ℕ
first_set bits = if bits == 0 then 16 else trailing_zeros w64 bits
