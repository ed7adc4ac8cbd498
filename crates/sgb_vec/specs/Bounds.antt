-- The bounds of a simplex [GB_BASIC, simplex]: (n0, n1, n2, n3, n4, 0) is read up to the first entry that is
-- not positive, the stop. The entries before it are the bounds, or are repeated where the stop is negative; no
-- bound is above n. Where n0 itself is the stop, each bound is n.
use Rattle.std.specs.Prelude.{ℕ, zero, ◌+◌, min, ℤ, pos, negsuc, List, [], ◌∷◌, map, Result, Ok, Err, nat_lt, if◌then◌else◌}
use Rattle.sgb_vec.specs.Limits.{most_dimensions, most_vertices}
use Rattle.sgb_vec.specs.Sizes.{Normalized, before_stop, count_by_stop, stop_of, repeated, zero_after_stop}
use Rattle.sgb_vec.specs.declared.panics.Panic.{Panic}
use Rattle.sgb_vec.specs.declared.panics.Panic.TheVariants.{Bad, VeryBad}

-- n0 as the official name has it: -2 in the place of 0
abbrev pub first_parameter : ℤ → ℤ
first_parameter (pos zero) = negsuc 1
first_parameter n = n

-- the bounds that are repeated: those before the stop, or n alone where none stands there
abbrev pub bounds_to_repeat : ℕ → List ℕ → List ℕ
bounds_to_repeat n [] = n ∷ []
bounds_to_repeat n (b ∷ s) = b ∷ s

-- a parameter as the official name has it: n in the place of a bound above n
abbrev pub clamped_parameter : ℕ → ℤ → ℤ
clamped_parameter n (pos b) = pos (min b n)
clamped_parameter n (negsuc d) = negsuc d

-- the parameters and bounds, where s is to be repeated before the stop e of the entries: to d + 1 bounds where e is -d
abbrev pub simplex_by_stop : ℕ → List ℤ → List ℕ → ℤ → Result Normalized Panic
simplex_by_stop n entries s e = if nat_lt (most_dimensions + 1) (count_by_stop 1 s e) then Err Bad
    else (if nat_lt most_vertices n then Err VeryBad
    else Ok (record {
      params = pos n ∷ map (clamped_parameter n) (zero_after_stop entries);
      sizes = map (λ b. min b n) (repeated s (count_by_stop 1 s e));
    }))

-- a simplex's parameters normalised, with its bounds; or why they are refused: n below 0; then too many dimensions; then n above 10^9
abbrev pub simplex_of : ℤ → ℤ → ℤ → ℤ → ℤ → ℤ → Result Normalized Panic
simplex_of (negsuc n) n0 n1 n2 n3 n4 = Err Bad
simplex_of (pos n) n0 n1 n2 n3 n4 = let entries = first_parameter n0 ∷ n1 ∷ n2 ∷ n3 ∷ n4 ∷ [] in
    simplex_by_stop n entries (bounds_to_repeat n (before_stop entries)) (stop_of entries)
