-- Integers read one after another.
use Rattle.sgb_vec.proofs.Common.{◌<◌, ◌≤◌, ◌+◌, pos, nat_abs, length, take, set, get_or, append-nil, arith, ◌≡◌, ℕ, ℤ, suc, ◌-◌, List, [], ◌∷◌, ◌++◌, Result, Ok, Err, codes, sym, ◌∙◌, ap, take_all, take_more_set, get_or-set_same, get_or-set_other}
use Rattle.sgb_text.proofs.Readings.{◌>>=◌, fixed_at, read_after}
use Rattle.sgb_expr.specs.inner.Readings.{integer_at, integers_at, separator_before}
use Rattle.sgb_text.proofs.Readers.{bind_of, bind_stops, one_more, with_first}

-- an integer is read after those
integer_read : (first : List ℤ) (number : ℤ) (n : ℕ) (separator end text begun rest : List ℕ) → fixed_at separator text ≡ Ok begun → integer_at begun ≡ Ok (number, rest)
    → with_first first (integers_at separator (suc n) end text) ≡ with_first (first ++ number ∷ []) (integers_at (codes ",") n end rest)
integer_read first number n separator end text begun rest e f =
    let others = λ (x : ℤ × List ℕ). integers_at (codes ",") n end x.1 >>= λ others. Ok (x.0 ∷ others.0, others.1) in
    ap (with_first first) (bind_of (fixed_at separator text) (λ b. integer_at b >>= others) begun e ∙ bind_of (integer_at begun) others (number, rest) f)
    ∙ one_more first number (integers_at (codes ",") n end rest)

-- one integer more is to be read
one_left : (place n : ℕ) → place < n → n - place ≡ suc (n - (place + 1))
one_left place n h = omega (arith, h)

-- where the separator or the integer is not there
pub place_wrong : (numbers : List ℤ) (place n left : ℕ) (first separator end rest : List ℕ) (whole : Result (List ℤ × List ℕ) ℕ) → place < n → separator ≡ separator_before place first
    → read_after separator integer_at rest ≡ Err left → with_first (take place numbers) (integers_at (separator_before place first) (n - place) end rest) ≡ whole → whole ≡ Err left
place_wrong numbers place n left first separator end rest whole h is e inv = grind arith

-- an integer read and kept at its place
pub place_read : (numbers : List ℤ) (place n : ℕ) (number kept : ℤ) (first separator end rest begun after : List ℕ) (whole : Result (List ℤ × List ℕ) ℕ) → place < n → length numbers ≡ n → kept ≡ number → separator ≡ separator_before place first
    → fixed_at separator rest ≡ Ok begun → integer_at begun ≡ Ok (number, after) → with_first (take place numbers) (integers_at (separator_before place first) (n - place) end rest) ≡ whole
    → with_first (take (place + 1) (set numbers place kept)) (integers_at (separator_before (place + 1) first) (n - (place + 1)) end after) ≡ whole
place_read numbers place n number kept first separator end rest begun after whole h count same is e f inv =
    let more : take (place + 1) (set numbers place kept) ≡ take place numbers ++ number ∷ [] = grind (arith, take_more_set) in
    let comma : separator_before (place + 1) first ≡ codes "," = later place first in
    ap (λ ns. with_first ns (integers_at (separator_before (place + 1) first) (n - (place + 1)) end after)) more
    ∙ ap (λ s. with_first (take place numbers ++ number ∷ []) (integers_at s (n - (place + 1)) end after)) comma
    ∙ sym (integer_read (take place numbers) number (n - (place + 1)) (separator_before place first) end rest begun after (ap (λ b. fixed_at b rest) (sym is) ∙ e) f)
    ∙ ap (λ m. with_first (take place numbers) (integers_at (separator_before place first) m end rest)) (sym (one_left place n h)) ∙ inv
  where
    later : (place : ℕ) (first : List ℕ) → separator_before (place + 1) first ≡ codes ","
    later place first = let next : place + 1 ≡ suc place = omega arith in ap (λ p. separator_before p first) next

-- each integer kept is small
pub place_small : (numbers : List ℤ) (place bound : ℕ) (number kept : ℤ) → place < length numbers → kept ≡ number → nat_abs number < bound → ((k : ℕ) → k < place → nat_abs (get_or numbers k (pos 0)) < bound)
    → (k : ℕ) → k < place + 1 → nat_abs (get_or (set numbers place kept) k (pos 0)) < bound
place_small numbers place bound number kept within same small before k h = grind (arith, get_or-set_same, get_or-set_other)

-- all integers are read
all_left : (numbers : List ℤ) (place n : ℕ) (first end rest : List ℕ) (whole : Result (List ℤ × List ℕ) ℕ) → n ≤ place → length numbers ≡ n
    → with_first (take place numbers) (integers_at (separator_before place first) (n - place) end rest) ≡ whole → with_first numbers (integers_at (separator_before place first) 0 end rest) ≡ whole
all_left numbers place n first end rest whole h count inv = grind (arith, take_all)

-- and the end after them, or not
pub all_read : (numbers : List ℤ) (place n : ℕ) (first end rest after : List ℕ) (whole : Result (List ℤ × List ℕ) ℕ) → n ≤ place → length numbers ≡ n → fixed_at end rest ≡ Ok after
    → with_first (take place numbers) (integers_at (separator_before place first) (n - place) end rest) ≡ whole → whole ≡ Ok (numbers, after)
all_read numbers place n first end rest after whole h count e inv =
    sym (all_left numbers place n first end rest whole h count inv) ∙ ap (with_first numbers) (bind_of (fixed_at end rest) (λ r. Ok ([], r)) after e)
    ∙ ap (λ (ns : List ℤ). Ok (ns, after)) (append-nil numbers)

pub all_wrong : (numbers : List ℤ) (place n left : ℕ) (first end rest : List ℕ) (whole : Result (List ℤ × List ℕ) ℕ) → n ≤ place → length numbers ≡ n → fixed_at end rest ≡ Err left
    → with_first (take place numbers) (integers_at (separator_before place first) (n - place) end rest) ≡ whole → whole ≡ Err left
all_wrong numbers place n left first end rest whole h count e inv =
    sym (all_left numbers place n first end rest whole h count inv) ∙ ap (with_first numbers) (bind_stops (fixed_at end rest) (λ r. Ok ([], r)) left e)
