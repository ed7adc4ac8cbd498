-- A reader of numbers in a radix.
use Rattle.sgb_vec.proofs.Common.{◌≡◌, ℕ, zero, suc, ◌<◌, ◌≤◌, ◌⊎◌, true, false, List, [], ◌∷◌, ◌++◌, length, Option, Some, None, Ok, Err, refl, sym, ◌∙◌, ap, inl, inr, arith, drop, if◌then◌else◌, nat_lt, ok_or, digit_value, is_digit, AllDigits, digits_value, drop-append_seam, cases_lt, lt-ltb, nil_from_length}
use Rattle.sgb_text.specs.Numbers.{IsNumber}
use Rattle.sgb_vec.specs.Digits.{leading_digits, leading_number}
use Rattle.sgb_vec.proofs.NamedNumbers.{first_byte}
use Rattle.sgb_expr.specs.inner.Readings.{number_of_digits, number_at}
use Rattle.sgb_text.proofs.Readers.{next, IsFound, Wrong, Reads, no_ok, ok_same}

-- the text does not begin with a digit in the radix
abbrev pub NoDigit : ℕ → List ℕ → Type 0
NoDigit radix text = (byte : ℕ) → next text ≡ Some byte → digit_value byte < radix → ⊥

-- a byte is a digit or none
digit_cases : (radix byte : ℕ) → ((is_digit byte radix ≡ true) × (digit_value byte < radix)) ⊎ ((is_digit byte radix ≡ false) × (radix ≤ digit_value byte))
digit_cases radix byte = grind arith

-- digits that end there, or of which there may be no more
pub leading_again : (radix most : ℕ) (digits rest : List ℕ) → AllDigits radix digits → length digits ≤ most → (length digits < most → NoDigit radix rest) → leading_digits radix most (digits ++ rest) ≡ digits
leading_again radix zero [] rest all short none = refl
leading_again radix (suc most) [] [] all short none = refl
leading_again radix (suc most) [] (byte ∷ rest) all short none = grind arith
leading_again radix zero (byte ∷ digits) rest all short none = absurd (omega (arith, short))
leading_again radix (suc most) (byte ∷ digits) rest all short none = grind (arith, first_byte, leading_again radix most digits rest all.1 (omega (arith, short)) (λ lt. none (omega (arith, lt))))

-- a byte that is no digit is another than one that is
pub other_digit : (radix byte other : ℕ) → radix ≤ digit_value byte → ◌≡◌ {A = Option ℕ} (Some byte) (Some other) → digit_value other < radix → ⊥
other_digit radix byte other h e digit = grind (arith)

-- a text in its first digits and the rest
pub record Leading (radix most : ℕ) (text : List ℕ) : Type 0 where
  pub digits : List ℕ
  pub rest : List ℕ
  pub whole : text ≡ digits ++ rest
  pub are : leading_digits radix most text ≡ digits
  pub all : AllDigits radix digits
  pub short : length digits ≤ most
  pub none : length digits < most → NoDigit radix rest

pub leading : (radix most : ℕ) (text : List ℕ) → Leading radix most text
leading radix zero text = record { digits = []; rest = text; whole = refl; are = refl; all = tt; short = omega arith; none = λ lt. absurd (omega (arith, lt)) }
leading radix (suc most) [] = record { digits = []; rest = []; whole = refl; are = refl; all = tt; short = omega arith; none = λ lt byte e. absurd (cc) }
leading radix (suc most) (byte ∷ text) = elim (digit_cases radix byte) [
  | inl h ↦ let t = leading radix most text in record {
    digits = byte ∷ t.digits;
    rest = t.rest;
    whole = ap (λ u. byte ∷ u) t.whole;
    are = first_byte radix most byte text ∙ rw h.0 (ap (λ u. byte ∷ u) t.are);
    all = (h.1, t.all);
    short = omega (arith, t.short);
    none = λ lt. t.none (omega (arith, lt));
  }
  | inr h ↦ record {
    digits = [];
    rest = byte ∷ text;
    whole = refl;
    are = first_byte radix most byte text ∙ rw h.0 refl;
    all = tt;
    short = omega arith;
    none = λ lt other e digit. absurd (other_digit radix byte other h.1 e digit);
  }
]

-- a number is read of its digits
pub number_found : (radix most : ℕ) (text digits rest : List ℕ) → leading_digits radix most text ≡ digits → text ≡ digits ++ rest → 0 < length digits → number_at radix most text ≡ Ok (digits_value radix digits, rest)
number_found radix most text digits rest e whole some = grind (arith, drop-append_seam)

-- a number is not read where there are no digits
pub number_stops : (radix most : ℕ) (text : List ℕ) → leading_digits radix most text ≡ [] → number_at radix most text ≡ Err (length text)
number_stops radix most text e = ap (λ (ds : List ℕ). number_of_digits radix ds text) e

-- a text that begins as another with no digit
pub no_digit_same : (radix : ℕ) (text other : List ℕ) → next other ≡ next text → NoDigit radix text → NoDigit radix other
no_digit_same radix text other e none byte h = none byte (sym e ∙ h)

-- the number 0
pub zero_is_number : (radix most : ℕ) → 0 < radix → 0 < most → IsNumber radix most (48 ∷ []) 0
zero_is_number radix most some room = record { numeral = (omega arith, (some, tt)); short = omega (arith, room); writes = omega arith }

-- a number that was read
number_found_at : (radix most : ℕ) (text : List ℕ) (value : ℕ) (rest : List ℕ) → number_at radix most text ≡ Ok (value, rest) → Leading radix most text → IsFound (IsNumber radix most) (number_at radix most) text value rest
number_found_at radix most text value rest e l = elim (cases_lt 0 (length l.digits)) [
  | inl some ↦
      let read = number_found radix most text l.digits l.rest l.are l.whole some in
      let both : (digits_value radix l.digits, l.rest) ≡ (value, rest) = ok_same (digits_value radix l.digits, l.rest) (value, rest) (sym read ∙ e) in
      let is : value ≡ digits_value radix l.digits = sym (ap (λ (p : ℕ × List ℕ). p.0) both) in
      let after : l.rest ≡ rest = ap (λ (p : ℕ × List ℕ). p.1) both in record {
        word = l.digits;
        whole = l.whole ∙ ap (λ u. l.digits ++ u) after;
        is = record { numeral = (some, l.all); short = l.short; writes = is };
        same = λ other e2.
            number_found radix most (l.digits ++ other) l.digits other
            (leading_again radix most l.digits other l.all l.short (λ lt. no_digit_same radix l.rest other (e2 ∙ sym (ap next after)) (l.none lt))) refl some
            ∙ ap (λ (n : ℕ). Ok (n, other)) (sym is);
      }
  | inr none ↦ absurd (no_ok (sym (number_stops radix most text (l.are ∙ nil_from_length l.digits (omega (arith, none)))) ∙ e))
]

-- where no digit stands, there is no number
pub none_again : (radix most : ℕ) (text : List ℕ) → NoDigit radix text → number_at radix most text ≡ Err (length text)
none_again radix most text none = number_stops radix most text (leading_again radix most [] text tt (omega arith) (λ lt. none))

-- where there is no number, no digit stands
pub none_there : (radix most : ℕ) → 0 < most → (text : List ℕ) (left : ℕ) → number_at radix most text ≡ Err left → (left ≡ length text) × NoDigit radix text
none_there radix most room text left e = grind arith

number_wrong_at : (radix most : ℕ) → 0 < radix → 0 < most → (text : List ℕ) (left : ℕ) → number_at radix most text ≡ Err left → Wrong (IsNumber radix most) (number_at radix most) text left
number_wrong_at radix most some room text left e =
    let none = none_there radix most room text left e in record {
      cut = record { good = []; bad = text; whole = refl; count = none.0 };
      begins = (48 ∷ [], 0, zero_is_number radix most some room);
      same = λ other e2. none_again radix most other (no_digit_same radix text other e2 none.1);
    }

-- a reader of numbers in a radix, of so many digits at most
pub reads_number : (radix most : ℕ) → 0 < radix → 0 < most → Reads (IsNumber radix most) (NoDigit radix) (number_at radix most)
reads_number radix most some room = record {
  found = λ text value rest e. number_found_at radix most text value rest e (leading radix most text);
  wrong = λ text left e. number_wrong_at radix most some room text left e;
  again = λ word tail value is none.
      number_found radix most (word ++ tail) word tail (leading_again radix most word tail is.numeral.1 is.short (λ lt. none)) refl is.numeral.0
      ∙ ap (λ (n : ℕ). Ok (n, tail)) (sym is.writes);
  some = (48 ∷ [], 0, zero_is_number radix most some room);
}

-- the number is the one of the first digits
number_of_first : (radix : ℕ) (digits text : List ℕ) → number_of_digits radix digits text ≡ ok_or (if nat_lt 0 (length digits) then Some (digits_value radix digits, drop (length digits) text) else None) (length text)
number_of_first radix [] text = refl
number_of_first radix (digit ∷ digits) text = rw (lt-ltb 0 (length (digit ∷ digits)) (omega arith)) refl

pub number_is_leading : (radix most : ℕ) (text : List ℕ) → number_at radix most text ≡ ok_or (leading_number radix most text) (length text)
number_is_leading radix most text = number_of_first radix (leading_digits radix most text) text
