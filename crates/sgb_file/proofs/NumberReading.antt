-- Lemmas on numbers that are read digit by digit.
use Rattle.sgb_vec.proofs.Common.{get_or, inl, inr, arith, sym, ◌∙◌, ◌≡◌, zero, suc, drop, None, refl, ℕ, ◌+◌, ◌-◌, ◌*◌, ◌^◌, ◌<◌, ◌≤◌, true, List, [], ◌∷◌, Option, Some, length, take, nat_le, nat_lt, is_digit, list_all, take_while, AllDigits, digits_value, and_parts, and_from, cases_lt, lt-ltb, le-ltb, length-take, length-drop, drop_all, nil_from_length, take_while-cons, list_all_more, nat_tests, pow-le-pow_right}
use Rattle.std.proofs.lemmas.Int.Digits.{digits_value_more, digits_value-lt}
use Rattle.sgb_vec.specs.Digits.{leading_digits, leading_number}
use Rattle.sgb_vec.proofs.NamedNumbers.{first_byte, leading_of_digits}
use Rattle.sgb_file.specs.inner.FieldValues.{is_decimal_digit, number_of}

pub all_digits : (text : List ℕ) → list_all is_decimal_digit text ≡ true → AllDigits 10 text
all_digits [] h = tt
all_digits (b ∷ text) h = grind (arith, nat_tests, and_parts, all_digits text)

-- at most so many digits write a number below this power
pub value_below : (text : List ℕ) (most : ℕ) → list_all is_decimal_digit text ≡ true → length text ≤ most → digits_value 10 text < 10 ^ most
value_below text most h short = grind (arith, digits_value-lt, all_digits, pow-le-pow_right)

pub at_most : (n k : ℕ) → nat_le n k ≡ true → n ≤ k
at_most n k h = grind (arith, nat_tests)

pub at_most_passes : (n k : ℕ) → n ≤ k → nat_le n k ≡ true
at_most_passes n k h = grind (arith, nat_tests)

pub test_below : (n limit : ℕ) → nat_lt n limit ≡ true → n < limit
test_below n limit e = grind (arith, nat_tests)

-- what the text of a number is
pub record SaysNumber (most : ℕ) (text : List ℕ) (n : ℕ) : Type 0 where
  pub some : 0 < length text
  pub short : length text ≤ most
  pub digits : list_all is_decimal_digit text ≡ true
  pub value : digits_value 10 text ≡ n

pub number_says : (most : ℕ) (text : List ℕ) (n : ℕ) → number_of most text ≡ Some n → SaysNumber most text n
number_says most text n e = grind (arith, nat_tests, SaysNumber)

-- and such a text says a number
pub number_tested : (most : ℕ) (text : List ℕ) → 0 < length text → length text ≤ most → list_all is_decimal_digit text ≡ true → number_of most text ≡ Some (digits_value 10 text)
number_tested most text some short digits = grind (arith, nat_tests, digits)

-- a number of so many digits
pub number_is_small : (most : ℕ) (text : List ℕ) (n : ℕ) → number_of most text ≡ Some n → n < 10 ^ most
number_is_small most text n e = grind (arith, number_says, value_below)

-- the digits in radix 10 are these
low_byte : (b : ℕ) → b < 48 → is_digit b 10 ≡ is_decimal_digit b
low_byte b h = rw (lt-ltb b 48 h) (grind (arith, nat_tests))

digit_byte : (b : ℕ) → 48 ≤ b → b < 58 → is_digit b 10 ≡ is_decimal_digit b
digit_byte b h k = rw (le-ltb b 48 h, lt-ltb b 58 k) (grind (arith, nat_tests))

high_byte : (b : ℕ) → 58 ≤ b → is_digit b 10 ≡ is_decimal_digit b
high_byte b h = rw (le-ltb b 48 (omega (arith, h)), le-ltb b 58 h) (grind (arith, nat_tests))

same_digit : (b : ℕ) → is_digit b 10 ≡ is_decimal_digit b
same_digit b = elim (cases_lt b 48) [ inl low ↦ low_byte b low | inr more ↦ elim (cases_lt b 58) [ inl low ↦ digit_byte b more low | inr high ↦ high_byte b high ] ]

-- a text that is nothing but digits, so many at most
whole_text : (most : ℕ) (text : List ℕ) → drop (length (leading_digits 10 most text)) text ≡ [] → (list_all is_decimal_digit text ≡ true) × (length text ≤ most)
whole_text zero [] e = (refl, omega arith)
whole_text zero (b ∷ text) e = absurd cc
whole_text (suc most) [] e = (refl, omega arith)
whole_text (suc most) (b ∷ text) e = grind (arith, first_byte, same_digit, whole_text most text)

-- the text of a number is what it begins with
whole_leads : (most : ℕ) (text : List ℕ) (n : ℕ) → number_of most text ≡ Some n → leading_digits 10 most text ≡ text
whole_leads most text n e = let says = number_says most text n e in leading_of_digits 10 most text (record { all = all_digits text says.digits; short = says.short })

whole_read : (most : ℕ) (text : List ℕ) (n : ℕ) → number_of most text ≡ Some n → leading_number 10 most text ≡ Some (n, [])
whole_read most text n e =
    let says = number_says most text n e in
    let leads = whole_leads most text n e in
    rw (leads, drop_all (length text) text (omega arith), says.value) (grind (arith, nat_tests, says.some))

none_unless : (o : Option ℕ) → ((n : ℕ) → o ≡ Some n → ⊥) → o ≡ None
none_unless None h = refl
none_unless (Some n) h = absurd (h n refl)

-- where a text begins with no number, or more follows, it is none
pub read_none : (most : ℕ) (text : List ℕ) → leading_number 10 most text ≡ None → number_of most text ≡ None
read_none most text e = none_unless (number_of most text) (λ n is. let w = whole_read most text n is in cc)

pub read_part : (most : ℕ) (text : List ℕ) (n : ℕ) (rest : List ℕ) → leading_number 10 most text ≡ Some (n, rest) → 0 < length rest → number_of most text ≡ None
read_part most text n rest e more = none_unless (number_of most text) (λ n2 is. let w = whole_read most text n2 is in grind (arith, w, e, more))

-- else it is the number
pub read_whole : (most : ℕ) (text : List ℕ) (n : ℕ) (rest : List ℕ) → leading_number 10 most text ≡ Some (n, rest) → length rest ≡ 0 → number_of most text ≡ Some n
read_whole most text n rest e none = grind (arith, nat_tests, whole_text, number_tested, leading_of_digits, all_digits, nil_from_length)

-- the digits that a text begins with, where there may be more of them
first_digits : (most : ℕ) (text : List ℕ) → length (leading_digits 10 most text) < most → take_while is_decimal_digit text ≡ leading_digits 10 most text
first_digits zero text h = absurd (omega (arith, h))
first_digits (suc most) [] h = refl
first_digits (suc most) (b ∷ text) h = let digits = take_while-cons is_decimal_digit b text in grind (arith, digits, first_byte, same_digit, first_digits most text)

too_many : (most : ℕ) (text : List ℕ) → most ≤ length (leading_digits 10 most text) → most ≤ length (take_while is_decimal_digit text)
too_many zero text h = omega arith
too_many (suc most) [] h = absurd (omega (arith, h))
too_many (suc most) (b ∷ text) h = let digits = take_while-cons is_decimal_digit b text in grind (arith, digits, first_byte, same_digit, too_many most text)

-- the number that all the digits write which a text begins with, read of one digit more than it may have
pub not_read : (text : List ℕ) → leading_number 10 19 text ≡ None → number_of 18 (take_while is_decimal_digit text) ≡ None
not_read text e = grind (arith, nat_tests, first_digits 19 text)

leading_within : (most : ℕ) (text : List ℕ) → length (leading_digits 10 most text) ≤ length text
leading_within zero text = omega arith
leading_within (suc most) [] = omega arith
leading_within (suc most) (b ∷ text) = grind (arith, first_byte, leading_within most text)

left_of_digits : (most : ℕ) (text : List ℕ) (n : ℕ) (rest : List ℕ) → leading_number 10 most text ≡ Some (n, rest) → length text - length rest ≡ length (leading_digits 10 most text)
left_of_digits most text n rest e = grind (arith, length-drop, leading_within most text)

-- what is left of a text is no longer than the text
pub rest_within : (most : ℕ) (text : List ℕ) (n : ℕ) (rest : List ℕ) → leading_number 10 most text ≡ Some (n, rest) → length rest ≤ length text
rest_within most text n rest e = grind (arith, length-drop)

pub long_read : (text : List ℕ) (n : ℕ) (rest : List ℕ) → leading_number 10 19 text ≡ Some (n, rest) → 18 < length text - length rest → number_of 18 (take_while is_decimal_digit text) ≡ None
long_read text n rest e long =
    let many = too_many 19 text (omega (arith, long, left_of_digits 19 text n rest e)) in
    none_unless (number_of 18 (take_while is_decimal_digit text)) (λ k is. let says = number_says 18 (take_while is_decimal_digit text) k is in absurd (omega (arith, many, says.short)))

pub record IsShortRead (text : List ℕ) (n : ℕ) (rest : List ℕ) : Type 0 where
  pub value : number_of 18 (take_while is_decimal_digit text) ≡ Some n
  pub small : n < 10 ^ 18
  pub left : rest ≡ drop (length (take_while is_decimal_digit text)) text

all_pass : (most : ℕ) (text : List ℕ) → list_all is_decimal_digit (leading_digits 10 most text) ≡ true
all_pass zero text = refl
all_pass (suc most) [] = refl
all_pass (suc most) (b ∷ text) = grind (arith, first_byte, same_digit, and_from, all_pass most text)

pub short_read : (text : List ℕ) (n : ℕ) (rest : List ℕ) → leading_number 10 19 text ≡ Some (n, rest) → length text - length rest ≤ 18 → IsShortRead text n rest
short_read text n rest e short =
    let few : length (leading_digits 10 19 text) ≤ 18 = omega (arith, short, left_of_digits 19 text n rest e) in
    let same = first_digits 19 text (omega (arith, few)) in
    let all = all_pass 19 text in
    let small = value_below (leading_digits 10 19 text) 18 all few in
    grind (arith, nat_tests, IsShortRead, all, small, number_tested, same)

-- one more byte of at most so many, which is a digit
pub record GoesOn (most : ℕ) (text : List ℕ) (i : ℕ) : Type 0 where
  pub here : is_decimal_digit (get_or text i 0) ≡ true
  pub low : 48 ≤ get_or text i 0
  pub digits : list_all is_decimal_digit (take (i + 1) text) ≡ true
  pub more : digits_value 10 (take (i + 1) text) ≡ 10 * digits_value 10 (take i text) + (get_or text i 0 - 48)
  pub fits : digits_value 10 (take (i + 1) text) < 10 ^ most

pub goes_on : (most : ℕ) (text : List ℕ) (i : ℕ) → list_all is_decimal_digit (take i text) ≡ true → is_decimal_digit (get_or text i 0) ≡ true
    → length text ≤ most → i < length text → GoesOn most text i
goes_on most text i h here short within =
    let more = digits_value_more 10 text i within in
    let all = list_all_more is_decimal_digit text i 0 within in
    grind (arith, nat_tests, length-take, value_below, and_from, more, all)

-- the same of a byte that counts no more than 9, of at most 18
pub counts_on : (text : List ℕ) (i d : ℕ) → list_all is_decimal_digit (take i text) ≡ true → nat_le d 9 ≡ is_decimal_digit (get_or text i 0) → d ≤ 9 → length text ≤ 18 → i < length text → GoesOn 18 text i
counts_on text i d h is counts short within = goes_on 18 text i h (sym is ∙ at_most_passes d 9 counts) short within
