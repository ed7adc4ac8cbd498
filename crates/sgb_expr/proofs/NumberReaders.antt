-- Readers of integers and bits.
use Rattle.sgb_vec.proofs.Common.{◌≡◌, ℕ, ℤ, pos, neg_ℤ, ◌<◌, ◌≤◌, List, [], ◌∷◌, ◌++◌, length, Some, Result, Ok, Err, codes, refl, sym, ◌∙◌, ap, subst, inl, inr, append_assoc, arith, length-append, lit<, lit≤, drop, digit_value, IsNumeral}
use Rattle.sgb_text.specs.Numbers.{IsNumber}
use Rattle.sgb_expr.specs.Numbers.{IsInteger, IsBits, most_digits}
use Rattle.sgb_text.specs.Languages.{As}
use Rattle.sgb_text.proofs.Readings.{◌>>=◌, fixed_at}
use Rattle.sgb_expr.specs.inner.Readings.{most_hex_digits, number_at, signed_at, integer_at, bits_after, bits_at}
use Rattle.sgb_text.proofs.Readers.{next, next_after, IsFound, Wrong, Reads, bind_stops, cut_after, cut_in, reads_as, reads_or, reads_before}
use Rattle.sgb_text.proofs.Words.{Parts, fixed_again, fixed_cases, fixed_stops, reads_after}
use Rattle.sgb_expr.proofs.Digits.{NoDigit, none_again, none_there, reads_number, no_digit_same, zero_is_number}

-- the text begins with no digit or letter, so that a number before it ends there
abbrev pub Clear : List ℕ → Type 0
Clear text = NoDigit 36 text

-- no digit in a greater radix, none in this one
pub clear_of : (radix : ℕ) → radix ≤ 36 → (text : List ℕ) → Clear text → NoDigit radix text
clear_of radix h text clear byte e digit = clear byte e (omega (arith, h, digit))

-- numbers in decimal digits
abbrev Decimal : List ℕ → ℕ → Type 0
Decimal = IsNumber 10 most_digits

reads_decimal : Reads Decimal Clear (number_at 10 most_digits)
reads_decimal = reads_before (clear_of 10 (lit≤ tt)) (reads_number 10 most_digits (lit< tt) (lit< tt))

-- and in hexadecimal ones
reads_hex : Reads (IsNumber 16 most_hex_digits) Clear (number_at 16 most_hex_digits)
reads_hex = reads_before (clear_of 16 (lit≤ tt)) (reads_number 16 most_hex_digits (lit< tt) (lit< tt))

-- a number without one
abbrev Unsigned : List ℕ → ℤ → Type 0
Unsigned = As pos Decimal

-- the first byte of digits, whatever follows, is a digit
first_digit : (radix : ℕ) (digits tail rest : List ℕ) (byte : ℕ) → IsNumeral radix digits → digits ++ tail ≡ byte ∷ rest → digit_value byte < radix
first_digit radix [] tail rest byte numeral e = absurd (omega (arith, numeral.0))
first_digit radix (c ∷ digits) tail rest byte numeral e = grind (arith)

-- a sign does not stand where a number begins
no_sign : (word tail : List ℕ) (value : ℤ) → Unsigned word value → (left : ℕ) × (signed_at (word ++ tail) ≡ Err left)
no_sign word tail value w = elim (fixed_cases (codes "-") (word ++ tail)) [
  | inl r ↦ grind (arith, first_digit)
  | inr p ↦ (p.0, bind_stops (fixed_at (codes "-") (word ++ tail)) (λ rest. number_at 10 most_digits rest >>= λ x. Ok (neg_ℤ (pos x.0), x.1)) p.0 p.1)
]

-- a reader of integers
pub reads_integer : Reads IsInteger Clear integer_at
reads_integer = reads_or (reads_after (codes "-") (reads_as (λ n. neg_ℤ (pos n)) reads_decimal)) (reads_as pos reads_decimal) no_sign (λ tail h. h)

-- decimal digits are not `0x`, whatever may follow
no_prefix : (word tail : List ℕ) (rest : List ℕ) → IsNumeral 10 word → Clear tail → word ++ tail ≡ codes "0x" ++ rest → ⊥
no_prefix [] tail rest numeral clear e = omega (arith, numeral.0)
no_prefix (c ∷ []) tail rest numeral clear e =
    let comes : next tail ≡ Some 120 = ap next (ap (drop 1) e) in
    clear 120 comes (lit< tt)
no_prefix (c ∷ d ∷ word) tail rest numeral clear e = grind (arith)

-- what stands after bits counts by its first byte alone: `0x` is read or not
prefix_same : (word rest other : List ℕ) (left : ℕ) → 0 < length word → Parts (codes "0x") (word ++ rest) left → next other ≡ next rest → (n : ℕ) × (fixed_at (codes "0x") (word ++ other) ≡ Err n)
prefix_same word rest other left some p e =
    let c = p.cut in
    let short : length c.good ≤ 1 = omega (arith, ap length p.bytes_are, length-append c.good (p.byte ∷ p.more)) in
    let cut = cut_in c.good c.bad word rest (sym c.whole) (omega (arith, short, some, ap length c.whole, length-append c.good c.bad, length-append word rest)) in
    let comes : next (cut.0 ++ other) ≡ next c.bad = next_after cut.0 other rest e ∙ sym (ap next cut.2) in
    let here : word ++ other ≡ c.good ++ (cut.0 ++ other) = ap (λ u. u ++ other) cut.1 ∙ append_assoc c.good cut.0 other in (
      length (cut.0 ++ other),
      ap (fixed_at (codes "0x")) here ∙ ap (λ b. fixed_at b (c.good ++ (cut.0 ++ other))) p.bytes_are
          ∙ fixed_stops c.good p.more (cut.0 ++ other) p.byte (λ h. p.other (sym comes ∙ h)),
    )

-- bits after what was read of `0x`
bits_here : (text : List ℕ) (r : Result (List ℕ) ℕ) → fixed_at (codes "0x") text ≡ r → bits_at text ≡ bits_after r text
bits_here text r e = ap (λ (s : Result (List ℕ) ℕ). bits_after s text) e

-- hexadecimal bits
bits_hex_found : (text rest after : List ℕ) (value : ℕ) → text ≡ codes "0x" ++ rest → IsFound (IsNumber 16 most_hex_digits) (number_at 16 most_hex_digits) rest value after → IsFound IsBits bits_at text value after
bits_hex_found text rest after value whole f = record {
  word = codes "0x" ++ f.word;
  whole = whole ∙ ap (λ u. codes "0x" ++ u) f.whole ∙ sym (append_assoc (codes "0x") f.word after);
  is = inl (f.word, refl, f.is);
  same = λ other e.
      bits_here ((codes "0x" ++ f.word) ++ other) (Ok (f.word ++ other)) (ap (fixed_at (codes "0x")) (append_assoc (codes "0x") f.word other) ∙ fixed_again (codes "0x") (f.word ++ other))
      ∙ f.same other e;
}

-- decimal ones
bits_decimal_found : (text after : List ℕ) (value left : ℕ) → Parts (codes "0x") text left → IsFound Decimal (number_at 10 most_digits) text value after → IsFound IsBits bits_at text value after
bits_decimal_found text after value left p f = record {
  word = f.word;
  whole = f.whole;
  is = inr f.is;
  same = λ other e.
      let there = subst (λ (u : List ℕ). Parts (codes "0x") u left) f.whole p in
      let stops = prefix_same f.word after other left f.is.numeral.0 there e in
      bits_here (f.word ++ other) (Err stops.0) stops.1 ∙ f.same other e;
}

-- where hexadecimal bits go wrong
bits_hex_wrong : (text rest : List ℕ) (left : ℕ) → text ≡ codes "0x" ++ rest → Wrong (IsNumber 16 most_hex_digits) (number_at 16 most_hex_digits) rest left → Wrong IsBits bits_at text left
bits_hex_wrong text rest left whole f = record {
  cut = cut_after (codes "0x") text rest left whole f.cut;
  begins = (f.begins.0, f.begins.1, inl (f.cut.good ++ f.begins.0, append_assoc (codes "0x") f.cut.good f.begins.0, f.begins.2));
  same = λ other e.
      bits_here ((codes "0x" ++ f.cut.good) ++ other) (Ok (f.cut.good ++ other)) (ap (fixed_at (codes "0x")) (append_assoc (codes "0x") f.cut.good other) ∙ fixed_again (codes "0x") (f.cut.good ++ other))
      ∙ f.same other e;
}

-- where no bits begin
bits_wrong_at_once : (text : List ℕ) (left : ℕ) → number_at 10 most_digits text ≡ Err left → Wrong IsBits bits_at text left
bits_wrong_at_once text left e =
    let none = none_there 10 most_digits (lit< tt) text left e in record {
      cut = record { good = []; bad = text; whole = refl; count = none.0 };
      begins = (48 ∷ [], 0, inr (zero_is_number 10 most_digits (lit< tt) (lit< tt)));
      same = λ other e2.
          let clear = no_digit_same 10 text other e2 none.1 in
          elim (fixed_cases (codes "0x") other) [
            | inl r ↦ absurd (clear 48 (ap next r.2) (lit< tt))
            | inr p ↦ bits_here other (Err p.0) p.1 ∙ none_again 10 most_digits other clear
          ];
    }

-- a reader of bits
pub reads_bits : Reads IsBits Clear bits_at
reads_bits = record {
  found = λ text value rest e. elim (fixed_cases (codes "0x") text) [
    | inl r ↦ bits_hex_found text r.0 rest value r.2 (reads_hex.found r.0 value rest (sym (bits_here text (Ok r.0) r.1) ∙ e))
    | inr p ↦ bits_decimal_found text rest value p.0 p.2 (reads_decimal.found text value rest (sym (bits_here text (Err p.0) p.1) ∙ e))
  ];
  wrong = λ text left e. elim (fixed_cases (codes "0x") text) [
    | inl r ↦ bits_hex_wrong text r.0 left r.2 (reads_hex.wrong r.0 left (sym (bits_here text (Ok r.0) r.1) ∙ e))
    | inr p ↦ bits_wrong_at_once text left (sym (bits_here text (Err p.0) p.1) ∙ e)
  ];
  again = λ word tail value is t. elim is [
    | inl h ↦
        let here : word ++ tail ≡ codes "0x" ++ (h.0 ++ tail) = ap (λ u. u ++ tail) h.1 ∙ append_assoc (codes "0x") h.0 tail in
        bits_here (word ++ tail) (Ok (h.0 ++ tail)) (ap (fixed_at (codes "0x")) here ∙ fixed_again (codes "0x") (h.0 ++ tail)) ∙ reads_hex.again h.0 tail value h.2 t
    | inr h ↦ elim (fixed_cases (codes "0x") (word ++ tail)) [
      | inl r ↦ absurd (no_prefix word tail r.0 h.numeral t r.2)
      | inr p ↦ bits_here (word ++ tail) (Err p.0) p.1 ∙ reads_decimal.again word tail value h t
    ]
  ];
  some = (48 ∷ [], 0, inr (zero_is_number 10 most_digits (lit< tt) (lit< tt)));
}
