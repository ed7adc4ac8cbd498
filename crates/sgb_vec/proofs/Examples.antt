-- Worked examples, evaluated: normalised parameters with their refusals, vectors of a sum, names, numbers in texts.
use Rattle.std.specs.Prelude.{◌≡◌, ℕ, true, false, replicate, pos, negsuc, [], ◌∷◌, length, Some, None, Result, Ok, Err, codes, slice_get, refl}
use Rattle.std.specs.Fmt.{digits}
use Rattle.sgb_vec.specs.Sizes.{Normalized, repeated, board_of}
use Rattle.sgb_vec.specs.Boxes.{box, box_of}
use Rattle.sgb_vec.specs.Results.{and_then}
use Rattle.sgb_vec.specs.Bounds.{simplex_of}
use Rattle.sgb_vec.specs.Digits.{leading_number}
use Rattle.sgb_vec.specs.Sums.{bounded_sums, has_great_count, sum_of}
use Rattle.sgb_vec.specs.inner.SumRows.{count_of_sum}
use Rattle.sgb_vec.specs.Names.{name_of_vector}
use Rattle.sgb_vec.specs.NamedVectors.{is_vector, vector_of}
use Rattle.sgb_vec.specs.declared.panics.Panic.{Panic}
use Rattle.sgb_vec.specs.declared.panics.Panic.TheVariants.{Bad, VeryBad}

-- how many sizes or bounds there are
abbrev sizes_count : Result Normalized Panic → ℕ
sizes_count (Ok shape) = length shape.sizes
sizes_count (Err e) = 0

-- ---- boards

-- board(0,5,5,5,..) is the chessboard
pub board_default : board_of (pos 0) (pos 5) (pos 5) (pos 5) ≡ Ok (record { params = pos 8 ∷ pos 8 ∷ pos 0 ∷ pos 0 ∷ []; sizes = 8 ∷ 8 ∷ [] })
unfolding repeated
board_default = refl

-- board(2,3,5,-7,..) repeats its three sizes seven times over
pub board_repeated : board_of (pos 2) (pos 3) (pos 5) (negsuc 6) ≡ Ok (record { params = pos 2 ∷ pos 3 ∷ pos 5 ∷ negsuc 6 ∷ []; sizes = 2 ∷ 3 ∷ 5 ∷ 2 ∷ 3 ∷ 5 ∷ 2 ∷ [] })
unfolding repeated
board_repeated = refl

-- its 1,800 vectors: the last is 1.2.4.1.2.4.1
pub last_of_repeated : slice_get (box (2 ∷ 3 ∷ 5 ∷ 2 ∷ 3 ∷ 5 ∷ 2 ∷ [])) 1799 ≡ Some (1 ∷ 2 ∷ 4 ∷ 1 ∷ 2 ∷ 4 ∷ 1 ∷ [])
unfolding box
last_of_repeated = refl

pub none_after_the_last : slice_get (box (2 ∷ 3 ∷ 5 ∷ 2 ∷ 3 ∷ 5 ∷ 2 ∷ [])) 1800 ≡ None
unfolding box
none_after_the_last = refl

-- the vectors of board(2,3,..), and those of no dimensions and of a size of 0
pub vectors_of_2_by_3 : box (2 ∷ 3 ∷ []) ≡ (0 ∷ 0 ∷ []) ∷ (0 ∷ 1 ∷ []) ∷ (0 ∷ 2 ∷ []) ∷ (1 ∷ 0 ∷ []) ∷ (1 ∷ 1 ∷ []) ∷ (1 ∷ 2 ∷ []) ∷ []
unfolding box
vectors_of_2_by_3 = refl

pub vectors_of_no_sizes : box [] ≡ [] ∷ []
unfolding box
vectors_of_no_sizes = refl

pub vectors_of_2_by_0 : box (2 ∷ 0 ∷ []) ≡ []
unfolding box
vectors_of_2_by_0 = refl

-- board(2,-251,..) has too many dimensions, board(2,-30,..) too many vertices
pub board_of_251_dimensions : board_of (pos 2) (negsuc 250) (pos 0) (pos 0) ≡ Err Bad
unfolding repeated
board_of_251_dimensions = refl

pub board_of_30_dimensions : and_then (board_of (pos 2) (negsuc 29) (pos 0) (pos 0)) (λ shape. box_of shape.sizes) ≡ Err VeryBad
unfolding repeated
board_of_30_dimensions = refl

-- board(4294967296,-251,..) has too many dimensions and a size too great: that there are too many dimensions comes first
pub board_refused_twice : board_of (pos 4294967296) (negsuc 250) (pos 0) (pos 0) ≡ Err Bad
unfolding repeated
board_refused_twice = refl

pub board_of_a_great_size : board_of (pos 2) (pos 4294967296) (pos 0) (pos 0) ≡ Err VeryBad
unfolding repeated
board_of_a_great_size = refl

pub board_of_the_greatest_size : board_of (pos 4294967295) (pos 0) (pos 0) (pos 0) ≡ Ok (record { params = pos 4294967295 ∷ pos 0 ∷ pos 0 ∷ pos 0 ∷ []; sizes = 4294967295 ∷ [] })
unfolding repeated
board_of_the_greatest_size = refl

pub board_of_250_dimensions : sizes_count (board_of (pos 1) (negsuc 249) (pos 0) (pos 0)) ≡ 250
unfolding repeated
board_of_250_dimensions = refl

-- so it is with the box of these sizes; 250 dimensions are not too many
pub box_refused_twice : box_of (replicate 251 2) ≡ Err Bad
box_refused_twice = refl

pub box_of_250_dimensions : box_of (replicate 250 1) ≡ Ok (replicate 250 1)
box_of_250_dimensions = refl

-- the greatest box, and one of a vertex more
pub greatest_box : box_of (1_000_000_000 ∷ []) ≡ Ok (1_000_000_000 ∷ [])
greatest_box = refl

pub box_too_great : box_of (1_000_000_001 ∷ []) ≡ Err VeryBad
box_too_great = refl

-- board(2,4294967296,-1,0,..) has the one size 2: the great entry is not reached
pub board_with_unreached_entry : board_of (pos 2) (pos 4294967296) (negsuc 0) (pos 0) ≡ Ok (record { params = pos 2 ∷ pos 4294967296 ∷ negsuc 0 ∷ pos 0 ∷ []; sizes = 2 ∷ [] })
unfolding repeated
board_with_unreached_entry = refl

-- ---- simplexes

-- simplex(2,0,..) has three bounds of 2, and -2 in its name
pub simplex_default : simplex_of (pos 2) (pos 0) (pos 0) (pos 0) (pos 0) (pos 0)
    ≡ Ok (record { params = pos 2 ∷ negsuc 1 ∷ pos 0 ∷ pos 0 ∷ pos 0 ∷ pos 0 ∷ []; sizes = 2 ∷ 2 ∷ 2 ∷ [] })
unfolding repeated
simplex_default = refl

-- simplex(2,1,-4,..): the one bound 1 stands five times, as in petersen
pub simplex_repeated : simplex_of (pos 2) (pos 1) (negsuc 3) (pos 0) (pos 0) (pos 0)
    ≡ Ok (record { params = pos 2 ∷ pos 1 ∷ negsuc 3 ∷ pos 0 ∷ pos 0 ∷ pos 0 ∷ []; sizes = 1 ∷ 1 ∷ 1 ∷ 1 ∷ 1 ∷ [] })
unfolding repeated
simplex_repeated = refl

-- simplex(0,3,0,..): the bound is clamped to 0, in the name too, and there are no dimensions
pub simplex_cut : simplex_of (pos 0) (pos 3) (pos 0) (pos 0) (pos 0) (pos 0)
    ≡ Ok (record { params = pos 0 ∷ pos 0 ∷ pos 0 ∷ pos 0 ∷ pos 0 ∷ pos 0 ∷ []; sizes = 0 ∷ [] })
unfolding repeated
simplex_cut = refl

-- a negative n, more than 250 dimensions, n above 1,000,000,000
pub simplex_negative : simplex_of (negsuc 0) (pos 0) (pos 0) (pos 0) (pos 0) (pos 0) ≡ Err Bad
unfolding repeated
simplex_negative = refl

pub simplex_of_250_dimensions : sizes_count (simplex_of (pos 1) (negsuc 249) (pos 0) (pos 0) (pos 0) (pos 0)) ≡ 251
unfolding repeated
simplex_of_250_dimensions = refl

pub simplex_of_251_dimensions : simplex_of (pos 1) (negsuc 250) (pos 0) (pos 0) (pos 0) (pos 0) ≡ Err Bad
unfolding repeated
simplex_of_251_dimensions = refl

-- simplex(1000000001,-251,..) has too many dimensions and a sum too great: that there are too many dimensions comes first
pub simplex_refused_twice : simplex_of (pos 1_000_000_001) (negsuc 250) (pos 0) (pos 0) (pos 0) (pos 0) ≡ Err Bad
unfolding repeated
simplex_refused_twice = refl

pub simplex_of_a_great_sum : simplex_of (pos 1_000_000_001) (negsuc 249) (pos 0) (pos 0) (pos 0) (pos 0) ≡ Err VeryBad
unfolding repeated
simplex_of_a_great_sum = refl

-- the entries after the stop become 0, and those before it that are above n become n
pub simplex_name : simplex_of (pos 4) (pos 3) (pos 9) (negsuc 0) (pos 5) (negsuc 6)
    ≡ Ok (record { params = pos 4 ∷ pos 3 ∷ pos 4 ∷ negsuc 0 ∷ pos 0 ∷ pos 0 ∷ []; sizes = 3 ∷ 4 ∷ [] })
unfolding repeated
simplex_name = refl

pub simplex_of_the_greatest_sum : simplex_of (pos 1_000_000_000) (pos 1) (pos 0) (pos 0) (pos 0) (pos 0)
    ≡ Ok (record { params = pos 1_000_000_000 ∷ pos 1 ∷ pos 0 ∷ pos 0 ∷ pos 0 ∷ pos 0 ∷ []; sizes = 1 ∷ [] })
unfolding repeated
simplex_of_the_greatest_sum = refl

pub simplex_too_great : simplex_of (pos 1_000_000_001) (pos 1) (pos 0) (pos 0) (pos 0) (pos 0) ≡ Err VeryBad
unfolding repeated
simplex_too_great = refl

-- ---- sums

-- the vertices of simplex(2,0,..)
pub sums_of_2 : bounded_sums 2 (2 ∷ 2 ∷ 2 ∷ []) ≡ (0 ∷ 0 ∷ 2 ∷ []) ∷ (0 ∷ 1 ∷ 1 ∷ []) ∷ (0 ∷ 2 ∷ 0 ∷ []) ∷ (1 ∷ 0 ∷ 1 ∷ []) ∷ (1 ∷ 1 ∷ 0 ∷ []) ∷ (2 ∷ 0 ∷ 0 ∷ []) ∷ []
unfolding bounded_sums box
sums_of_2 = refl

-- simplex(5,2,2,..) and the sum of 4 with bounds 1, 1 have no vector, simplex(3,3,..) has the vector 3
pub sums_beyond_bounds : bounded_sums 5 (2 ∷ 2 ∷ []) ≡ []
unfolding bounded_sums box
sums_beyond_bounds = refl

pub sums_of_4 : count_of_sum 4 (1 ∷ 1 ∷ []) ≡ 0
unfolding bounded_sums box
sums_of_4 = refl

pub sums_of_one_entry : bounded_sums 3 (3 ∷ []) ≡ (3 ∷ []) ∷ []
unfolding bounded_sums box
sums_of_one_entry = refl

-- what a sum is refused for: a negative one, one above 1,000,000,000; one of a single bound never has too many vectors
pub sum_negative : sum_of (negsuc 0) (1 ∷ 1 ∷ []) ≡ Err Bad
sum_negative = refl

pub sum_too_great : sum_of (pos 1_000_000_001) (1 ∷ []) ≡ Err VeryBad
unfolding has_great_count
sum_too_great = refl

pub sum_accepted : sum_of (pos 4) (1 ∷ 1 ∷ []) ≡ Ok (record { total = 4; bounds = 1 ∷ 1 ∷ [] })
unfolding has_great_count bounded_sums box
sum_accepted = refl

-- ---- names

-- the name of (1,0), and what texts stand for
pub name_of_1_0 : name_of_vector (1 ∷ 0 ∷ []) ≡ codes "1.0"
unfolding name_of_vector digits
name_of_1_0 = refl

pub vector_of_empty_text : vector_of [] ≡ Some []
unfolding vector_of name_of_vector
vector_of_empty_text = refl

-- a vector that a name may stand for has at most 251 entries, each below 2^32
pub vector_of_251_entries : is_vector (replicate 251 0) ≡ true
vector_of_251_entries = refl

pub vector_of_252_entries : is_vector (replicate 252 0) ≡ false
vector_of_252_entries = refl

pub vector_of_greatest_entry : is_vector (4294967295 ∷ []) ≡ true
vector_of_greatest_entry = refl

pub vector_of_name : vector_of (codes "1.10.0") ≡ Some (1 ∷ 10 ∷ 0 ∷ [])
unfolding vector_of name_of_vector digits
vector_of_name = refl

pub vector_of_leading_zero : vector_of (codes "01.2") ≡ None
unfolding vector_of name_of_vector digits
vector_of_leading_zero = refl

pub vector_of_great_entry : vector_of (codes "4294967296") ≡ None
unfolding vector_of name_of_vector digits
vector_of_great_entry = refl

pub vector_of_dot_at_the_end : vector_of (codes "1.") ≡ None
unfolding vector_of name_of_vector digits
vector_of_dot_at_the_end = refl

-- ---- numbers that texts begin with

-- three digits at most, and the text after them
pub number_and_rest : leading_number 10 3 (codes "12345") ≡ Some (123, codes "45")
number_and_rest = refl

-- hexadecimal up to the comma
pub hexadecimal_number : leading_number 16 9 (codes "1f,2") ≡ Some (31, codes ",2")
hexadecimal_number = refl

-- one digit is a number, no digit is none
pub one_digit : leading_number 10 9 (codes "7") ≡ Some (7, [])
one_digit = refl

pub no_digit : leading_number 10 9 (codes "-1") ≡ None
no_digit = refl
