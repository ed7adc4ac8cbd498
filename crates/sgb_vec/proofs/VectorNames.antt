-- The name of a vector, one entry at a time, and that it is a text.
use Rattle.sgb_vec.proofs.Common.{rules, ◌≡◌, ◌/◌, ℕ, zero, suc, ◌+◌, ◌*◌, ◌%◌, ◌^◌, ◌<◌, ◌≤◌, List, [], ◌∷◌, ◌++◌, length, get_or, take, decimal, refl, ap, ◌∙◌, arith, append_assoc, length-append, All, cases_lt, nat_tests, decimal_by_steps, length-decimal-le, take_more, length-take-le, All-nil, All-cons, All-tail, All-append, All-push}
use Rattle.itoa.proofs.Decimal.{length_one, length_step_wide}
use Rattle.sgb_vec.specs.Names.{name_of_vector, IsTextByte, IsText}

-- a digit may stand in a text
pub digit_is_text : (d : ℕ) → d < 10 → IsTextByte (48 + d)
digit_is_text d h = grind (arith, nat_tests)

-- the digits of a number may stand in a text
pub decimal_is_text : (n : ℕ) → n < 2 ^ 64 → All IsTextByte (decimal n)
decimal_is_text n h =
    decimal_by_steps (λ _ ds. All IsTextByte ds)
    (λ d low. All-cons IsTextByte (48 + d) [] (digit_is_text d low) (All-nil IsTextByte))
    (λ m ds high rest. All-push IsTextByte ds (48 + m % 10) rest (digit_is_text (m % 10) (omega arith)))
    n h

-- the digits of a number are one more than the highest power of ten in it
pub length-decimal-power : (k n : ℕ) → 10 ^ k ≤ n → n < 10 * 10 ^ k → n < 2 ^ 64 → length (decimal n) ≡ k + 1
length-decimal-power zero n low high fits = length_one n (omega arith)
length-decimal-power (suc k) n low high fits =
    omega (arith, length_step_wide n (omega arith) (omega arith), length-decimal-power k (n / 10) (omega arith) (omega arith) (omega arith))

-- the name of no entry
pub name_of_none : name_of_vector [] ≡ []
unfolding name_of_vector
name_of_none = refl

-- the name of one entry
pub name_of_one : (x : ℕ) → name_of_vector (x ∷ []) ≡ decimal x
unfolding name_of_vector
name_of_one x = refl

-- the name of more entries
name_of_more : (x y : ℕ) (rest : List ℕ) → name_of_vector (x ∷ y ∷ rest) ≡ decimal x ++ (46 ∷ name_of_vector (y ∷ rest))
unfolding name_of_vector
name_of_more x y rest = refl

-- one more entry after others
name_of_vector-push : (xs : List ℕ) (y : ℕ) → 0 < length xs → name_of_vector (xs ++ y ∷ []) ≡ (name_of_vector xs ++ 46 ∷ []) ++ decimal y
name_of_vector-push [] y some = absurd (omega arith)
name_of_vector-push (x ∷ []) y some = rw (name_of_more x y [], name_of_one x, name_of_one y) (simp append_assoc)
name_of_vector-push (x ∷ z ∷ rest) y some =
    rw (name_of_more x z (rest ++ y ∷ []), name_of_vector-push (z ∷ rest) y (omega arith), name_of_more x z rest) (simp append_assoc)

-- each byte of a name may stand in a text
name_of_vector_is_text : (v : List ℕ) → All (λ n. n < 2 ^ 32) v → All IsTextByte (name_of_vector v)
name_of_vector_is_text [] h = rw name_of_none (All-nil IsTextByte)
name_of_vector_is_text (x ∷ []) h = rw name_of_one (decimal_is_text x (omega (arith, h 0 0 (omega arith))))
name_of_vector_is_text (x ∷ y ∷ rest) h =
    let first = decimal_is_text x (omega (arith, h 0 0 (omega arith))) in
    let others = name_of_vector_is_text (y ∷ rest) (All-tail (λ n. n < 2 ^ 32) x (y ∷ rest) h) in
    rw name_of_more (All-append IsTextByte (decimal x) (46 ∷ name_of_vector (y ∷ rest)) first (All-cons IsTextByte 46 (name_of_vector (y ∷ rest)) refl others))

-- a name has at most eleven bytes for each entry
pub length-name_of_vector-le : (v : List ℕ) → All (λ n. n < 2 ^ 32) v → length (name_of_vector v) ≤ 11 * length v
length-name_of_vector-le [] h = rw name_of_none (omega arith)
length-name_of_vector-le (x ∷ []) h = rw name_of_one (omega (arith, length-decimal-le 10 x (omega arith) (omega (arith, h 0 0 (omega arith))) (omega (arith, h 0 0 (omega arith)))))
length-name_of_vector-le (x ∷ y ∷ rest) h =
    let first = length-decimal-le 10 x (omega arith) (omega (arith, h 0 0 (omega arith))) (omega (arith, h 0 0 (omega arith))) in
    grind (arith, name_of_more, length-append, length-name_of_vector-le (y ∷ rest) (All-tail (λ n. n < 2 ^ 32) x (y ∷ rest) h))

-- the name of a vector of at most 251 entries is a text
pub IsText-name_of_vector : (v : List ℕ) → length v ≤ 251 → All (λ n. n < 2 ^ 32) v → IsText (name_of_vector v)
IsText-name_of_vector v few fits =
    record { short = omega (arith, length-name_of_vector-le v fits); printable = name_of_vector_is_text v fits }

-- the first entry of a vector
pub name_of_vector-first : (v : List ℕ) (i : ℕ) → i ≤ 0 → i < length v → name_of_vector (take (i + 1) v) ≡ name_of_vector (take i v) ++ decimal (get_or v i 0)
name_of_vector-first (x ∷ rest) zero none h = rw (name_of_one x, name_of_none) refl
name_of_vector-first _ _ none h = absurd (omega arith)

-- one more entry of a vector
pub name_of_vector-more : (v : List ℕ) (i : ℕ) → 0 < i → i < length v → name_of_vector (take (i + 1) v) ≡ (name_of_vector (take i v) ++ 46 ∷ []) ++ decimal (get_or v i 0)
name_of_vector-more v i some h =
    ap name_of_vector (take_more v i 0 h) ∙ name_of_vector-push (take i v) (get_or v i 0) (omega (arith, length-take-le i v))

-- the length of the name with one more entry, before which there is a dot unless it is the first
pub length-name_of_vector-next : (v : List ℕ) (i dots : ℕ) → (0 < i → dots ≡ 1) → (i ≤ 0 → dots ≡ 0) → i < length v → length (name_of_vector (take (i + 1) v)) ≡ length (name_of_vector (take i v)) + (dots + length (decimal (get_or v i 0)))
length-name_of_vector-next v i dots one none h = search (rules, cases_lt, name_of_vector-more, length-append, name_of_vector-first)
