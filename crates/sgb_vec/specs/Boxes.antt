-- The vectors of a box [GB_BASIC, board], in lexicographic order.
use Rattle.std.specs.Prelude.{ℕ, ◌*◌, List, [], ◌∷◌, map, length, Result, Ok, Err, nat_lt, if◌then◌else◌}
use Rattle.std.specs.List.{range_with_len, flat_map}
use Rattle.sgb_vec.specs.Limits.{most_dimensions, most_vertices}
use Rattle.sgb_vec.specs.declared.panics.Panic.{Panic}
use Rattle.sgb_vec.specs.declared.panics.Panic.TheVariants.{Bad, VeryBad}

-- the vectors below sizes: of none the empty one; else for each x below the first size those of the others after x
unfoldable pub box : List ℕ → List (List ℕ)
box [] = [] ∷ []
box (s ∷ sizes) = flat_map (λ x. map (λ v. x ∷ v) (box sizes)) (range_with_len 0 s)

-- the product of the sizes
abbrev pub product_of : List ℕ → ℕ
product_of [] = 1
product_of (s ∷ sizes) = s * product_of sizes

-- the sizes of a box that can be a graph's vertices, or why not: too many dimensions; then too many vectors, by the exact product
abbrev pub box_of : List ℕ → Result (List ℕ) Panic
box_of sizes = if nat_lt most_dimensions (length sizes) then Err Bad
    else (if nat_lt most_vertices (product_of sizes) then Err VeryBad else Ok sizes)
