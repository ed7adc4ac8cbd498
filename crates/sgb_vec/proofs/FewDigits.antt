-- The decimal text of a number of few digits, put together digit by digit.
use Rattle.sgb_vec.proofs.Common.{rules, ◌≡◌, ◌≤◌, ◌<◌, ◌+◌, ◌/◌, ◌%◌, ◌∷◌, [], ◌++◌, ℕ, List, decimal, arith, append_assoc, decimal_digit, decimal_step}

-- one digit
pub one_digit : (text : List ℕ) (n : ℕ) → n < 10 → text ++ (48 + n % 10) ∷ [] ≡ text ++ decimal n
one_digit text n few = search (rules, decimal_digit)

-- two digits
pub two_digits : (text : List ℕ) (n : ℕ) → 10 ≤ n → n < 100 → (text ++ (48 + n / 10) ∷ []) ++ (48 + n % 10) ∷ [] ≡ text ++ decimal n
two_digits text n more few = grind (arith, decimal_step, decimal_digit, append_assoc)

-- two digits after others
pub more_digits : (text : List ℕ) (n : ℕ) → 100 ≤ n → n < 10_000 → ((text ++ decimal (n / 100)) ++ (48 + n / 10 % 10) ∷ []) ++ (48 + n % 10) ∷ [] ≡ text ++ decimal n
more_digits text n more few = search (rules, decimal_step, append_assoc)
