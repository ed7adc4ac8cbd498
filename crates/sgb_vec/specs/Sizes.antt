-- The sizes of a board [GB_BASIC, board]: (n1, n2, n3, n4, 0) is read up to the first entry that is not
-- positive, the stop. The entries before it are the sizes, or are repeated where the stop is negative.
use Rattle.std.specs.Prelude.{ℕ, ◌+◌, ◌%◌, ℤ, pos, negsuc, suc, List, [], ◌∷◌, length, map, Result, Ok, Err, slice_index, nat_lt, if◌then◌else◌}
use Rattle.std.specs.List.{range_with_len, list_any}
use Rattle.sgb_vec.specs.Limits.{most_dimensions, most_entry}
use Rattle.sgb_vec.specs.declared.panics.Panic.{Panic}
use Rattle.sgb_vec.specs.declared.panics.Panic.TheVariants.{Bad, VeryBad}

-- the entries before the stop
abbrev pub before_stop : List ℤ → List ℕ
before_stop (pos (suc n) ∷ rest) = suc n ∷ before_stop rest
before_stop _ = []

-- the stop; a 0 stands after the last entry
abbrev pub stop_of : List ℤ → ℤ
stop_of [] = pos 0
stop_of (pos (suc n) ∷ rest) = stop_of rest
stop_of (n ∷ rest) = n

-- the first k entries of s repeated without end: entry i is entry i modulo the length of s
unfoldable pub repeated : List ℕ → ℕ → List ℕ
repeated s k = map (λ i. slice_index s (i % length s)) (range_with_len 0 k)

-- how many sizes (more is 0) or bounds (more is 1): as many as stand before a stop of 0, d + more before one of -d
abbrev pub count_by_stop : ℕ → List ℕ → ℤ → ℕ
count_by_stop more s (pos n) = length s
count_by_stop more s (negsuc n) = n + 1 + more

-- the parameters as the official name has them: 0 in the place of each entry after the stop
abbrev pub zero_after_stop : List ℤ → List ℤ
zero_after_stop [] = []
zero_after_stop (pos (suc n) ∷ rest) = pos (suc n) ∷ zero_after_stop rest
zero_after_stop (n ∷ rest) = n ∷ map (λ m. pos 0) rest

-- parameters as the official name has them, and the numbers that they stand for
pub record Normalized : Type 0 where
  pub params : List ℤ
  pub sizes : List ℕ

-- the parameters and sizes, where s stands before the stop e of the entries: s repeated, to d sizes where e is -d; of none 8 by 8
abbrev pub board_by_stop : List ℤ → List ℕ → ℤ → Result Normalized Panic
board_by_stop entries [] e = Ok (record { params = pos 8 ∷ pos 8 ∷ pos 0 ∷ pos 0 ∷ []; sizes = 8 ∷ 8 ∷ [] })
board_by_stop entries (n ∷ s) e = let sizes = repeated (n ∷ s) (count_by_stop 0 (n ∷ s) e) in
    if nat_lt most_dimensions (count_by_stop 0 (n ∷ s) e) then Err Bad
    else (if list_any (λ m. nat_lt most_entry m) sizes then Err VeryBad
    else Ok (record { params = zero_after_stop entries; sizes = sizes }))

-- a board's parameters normalised, with its sizes; or why they are refused: too many dimensions; then a size above 4,294,967,295
abbrev pub board_of : ℤ → ℤ → ℤ → ℤ → Result Normalized Panic
board_of n1 n2 n3 n4 = let entries = n1 ∷ n2 ∷ n3 ∷ n4 ∷ [] in
    board_by_stop entries (before_stop entries) (stop_of entries)
