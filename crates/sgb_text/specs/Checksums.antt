-- Checksums that texts tell of themselves [GB_SAVE, restore_graph].
use Rattle.std.specs.Prelude.{ℕ, ℤ, pos, negsuc, Bool, true, ◌==◌}

-- a checksum that is told is negative, or it is that of the text
abbrev pub agrees : ℤ → ℕ → Bool
agrees (pos told) sum = told == sum
agrees (negsuc told) sum = true
