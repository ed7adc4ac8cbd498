-- Names that are made of names.
use Rattle.sgb_vec.proofs.Common.{◌≡◌, ℕ, ◌≤◌, ◌<◌, ◌^◌, [], ◌∷◌, take, length, arith, decimal, length-decimal-le, take_all}
use Rattle.sgb_vec.specs.Names.{name_of_vector}

-- a number of 32 bits has at most ten digits
pub number_is_short : (k : ℕ) → k < 2 ^ 32 → length (name_of_vector (k ∷ [])) ≤ 10
unfolding name_of_vector
number_is_short k fits = length-decimal-le 10 k (omega arith) (omega (arith, fits)) (omega (arith, fits))

pub whole_number : (k : ℕ) → k < 2 ^ 32 → take 10 (name_of_vector (k ∷ [])) ≡ decimal k
unfolding name_of_vector
whole_number k fits = take_all 10 (decimal k) (number_is_short k fits)
