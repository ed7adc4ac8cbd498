-- The vectors of a bounded sum [GB_BASIC, simplex], in lexicographic order.
use Rattle.std.specs.Prelude.{ℕ, ◌+◌, ◌-◌, ◌==◌, ℤ, pos, negsuc, Bool, List, map, length, take, filter, sum, Result, Ok, Err, nat_lt, if◌then◌else◌}
use Rattle.std.specs.List.{range_with_len, list_any}
use Rattle.sgb_vec.specs.Limits.{most_vertices}
use Rattle.sgb_vec.specs.Boxes.{box}
use Rattle.sgb_vec.specs.declared.panics.Panic.{Panic}
use Rattle.sgb_vec.specs.declared.panics.Panic.TheVariants.{Bad, VeryBad}

-- a sum and the bounds of its entries
pub record BoundedSum : Type 0 where
  pub total : ℕ
  pub bounds : List ℕ

-- the vectors (x0, .., xd) with xk at most the k-th bound that add to n: those of the box of the bounds + 1
unfoldable pub bounded_sums : ℕ → List ℕ → List (List ℕ)
bounded_sums n bounds = filter (λ v. sum v == n) (box (map (λ b. b + 1) bounds))

-- for some j from 1 to d and k up to n, more vectors (x0, .., xj) within the bounds add to k than a graph can have vertices
unfoldable pub has_great_count : ℕ → List ℕ → Bool
has_great_count n bounds =
    list_any (λ j. list_any (λ k. nat_lt most_vertices (length (bounded_sums k (take (j + 1) bounds)))) (range_with_len 0 (n + 1)))
    (range_with_len 1 (length bounds - 1))

-- a sum whose vectors can be a graph's vertices, or why not: it is negative; then above 1,000,000,000; then too many vectors
abbrev pub sum_of : ℤ → List ℕ → Result BoundedSum Panic
sum_of (negsuc n) bounds = Err Bad
sum_of (pos n) bounds = if nat_lt most_vertices n then Err VeryBad
    else (if has_great_count n bounds then Err VeryBad else Ok (record { total = n; bounds = bounds }))
