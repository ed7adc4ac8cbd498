-- Texts of fields and of lines, and what each says: the definitions themselves, and texts next to them that say nothing.
use Rattle.std.proofs.Common.{◌≡◌, ◌≤◌, ◌<◌, ◌++◌, ◌⊎◌, ℕ, suc, true, false, List, [], ◌∷◌, length, codes, ap, sym, subst, refl, arith, inl, inr, pos, Some, None}
use Rattle.std.specs.Prelude.{◌≢◌, ℤ, All, drop, slice_index, neg_ℤ}
use Rattle.std.specs.Char.{digit_value}
use Rattle.std.specs.Str.Parse.{digits_value}
use Rattle.std.specs.List.{list_all, slice_index_or}
use Rattle.std.proofs.lemmas.List.Sums.{AllPass-from_list_all}
use Rattle.sgb_vec.specs.Names.{is_text_byte}
use Rattle.sgb_graph.specs.declared.fields.Kind.TheVariants.{Z, I, V, S, A}
use Rattle.sgb_graph.specs.declared.fields.Ref.TheVariants.{Null, One, At}
use Rattle.sgb_graph.specs.declared.fields.Util.TheVariants.{Nothing, Int, Vertex as VertexField, Str, Chain}
use Rattle.sgb_file.specs.Fields.{IsNumberText, IsNumberBelow, IsIntegerText, IsRefText, IsRecordNumberText, IsStringText, unbroken}
use Rattle.sgb_file.specs.Files.{IsFieldText, IsComma, AreMoreFields, IsChecksumLine}
use Rattle.sgb_file.specs.Saving.{quoted}
use Rattle.sgb_file.proofs.NumberReading.{all_digits}

-- ---- numbers

-- eighteen digits are a number of the file's own, and nineteen are none
eighteen : IsNumberText (codes "000000000000000012") 12
eighteen = record { numeral = (omega arith, all_digits (codes "000000000000000012") refl); short = omega arith; writes = refl }

nineteen : IsNumberText (codes "0000000000000000012") 12 → ⊥
nineteen is = let many : 19 ≤ 18 = is.short in absurd (omega (arith, many))

-- one digit
two : IsNumberText (codes "2") 2
two = record { numeral = (omega arith, (omega arith, tt)); short = omega arith; writes = refl }

-- 2 is below 3, and not below 2
below_three : IsNumberBelow 3 (codes "2") 2
below_three = (two, omega arith)

not_below_two : IsNumberBelow 2 (codes "2") 2 → ⊥
not_below_two is = omega (arith, is.1)

-- twenty digits are an integer, and twenty after a minus; one digit more is none
twenty : IsIntegerText (codes "00000000000000000012") (pos 12)
twenty = (inl (12, record { numeral = (omega arith, all_digits (codes "00000000000000000012") refl); short = omega arith; writes = refl }, refl), grind arith)

twenty_after_minus : IsIntegerText (codes "-00000000000000000012") (neg_ℤ (pos 12))
twenty_after_minus = (inr (codes "00000000000000000012", refl, (12, record { numeral = (omega arith, all_digits (codes "00000000000000000012") refl); short = omega arith; writes = refl }, refl)), grind arith)

twenty_one : (i : ℤ) → IsIntegerText (codes "000000000000000000012") i → ⊥
twenty_one i (inl (n, number, is), fits) = let many : 21 ≤ 20 = number.short in absurd (omega (arith, many))
twenty_one i (inr (rest, text, others), fits) = let first : 48 ≡ 45 = ap (λ t. slice_index t 0) text in absurd (omega (arith, first))

twenty_one_after_minus : (i : ℤ) → IsIntegerText (codes "-000000000000000000012") i → ⊥
twenty_one_after_minus i (inl (n, number, is), fits) = let many : 22 ≤ 20 = number.short in absurd (omega (arith, many))
twenty_one_after_minus i (inr (rest, text, (n, number, is)), fits) =
    let all : 22 ≡ suc (length rest) = ap (λ t. length t) text in absurd (omega (arith, all, number.short))

-- ---- fields

-- a vertex of three; none; and the pointer value 1
refs : IsRefText 3 (codes "V2") (At 2) × IsRefText 3 (codes "0") Null × IsRefText 3 (codes "1") One
refs = (inr (inr (codes "2", refl, (2, below_three, refl))), inl (refl, refl), inr (inl (refl, refl)))

-- an arc record of three, and none
records : IsRecordNumberText 3 (codes "A2") (Some 2) × IsRecordNumberText 3 (codes "0") None
records = (inr (codes "2", refl, (2, below_three, refl)), inl (refl, refl))

-- a `\` and a newline after it count as nothing, and each alone as itself
one_break : unbroken (codes "a\\\nb\\\\c\nd") ≡ codes "ab\\\\c\nd"
unfolding unbroken
one_break = refl

-- printable bytes but for `"` and `\`, between quotes
pub string : (most : ℕ) (text : List ℕ) → length text ≤ most → unbroken text ≡ text → list_all is_text_byte text ≡ true → IsStringText most (quoted text) text
string most text short same printable = (text, refl, no_quote, same, short, printable)
  where
    none : (b : ℕ) → is_text_byte b ≡ true → b ≡ 34 → ⊥
    none b passes is = let other : false ≡ true = subst (λ b. is_text_byte b ≡ true) is passes in absurd cc

    no_quote : All (λ b. b ≢ 34) text
    no_quote k d lt = none (slice_index_or text k d) (AllPass-from_list_all is_text_byte text printable k d lt)

-- of as many bytes as it may have, next to the quote in the order of bytes; of fewer
full : IsStringText 3 (codes "\"#!a\"") (codes "#!a")
unfolding unbroken
full = string 3 (codes "#!a") (omega arith) refl refl

shorter : IsStringText 3 (codes "\"a\"") (codes "a")
unfolding unbroken
shorter = string 3 (codes "a") (omega arith) refl refl

-- a byte that is not printable
unprintable : IsStringText 3 (quoted (97 ∷ 9 ∷ [])) (97 ∷ 9 ∷ []) → ⊥
unprintable is = let printable : false ≡ true = is.5 in absurd cc

-- a field of each kind; there is none of kind Z
of_each_kind : IsFieldText 3 3 I (codes "00000000000000000012") (Int (pos 12)) × IsFieldText 3 3 V (codes "V2") (VertexField (At 2))
    × IsFieldText 3 3 S (codes "\"a\"") (Str (codes "a")) × IsFieldText 3 3 A (codes "A2") (Chain (Some 2))
unfolding unbroken
of_each_kind = ((pos 12, twenty, refl), (At 2, refs.0, refl), (codes "a", string 4095 (codes "a") (omega arith) refl refl, refl), (Some 2, records.0, refl))

none_of_z : IsFieldText 3 3 Z [] Nothing → ⊥
none_of_z is = is

-- a comma, and one at a line's end
commas : IsComma (codes ",") tt × IsComma (codes ",\n") tt
commas = (inl (refl, refl), inr (refl, refl))

-- two vertices of three, and no text for a field that is not used; there are no arc records
more_fields : AreMoreFields 3 0 (Z ∷ V ∷ V ∷ []) (codes ",V2,0\n") (Nothing ∷ VertexField (At 2) ∷ VertexField Null ∷ [])
more_fields = (
  VertexField (At 2) ∷ VertexField Null ∷ [],
  (
    codes ",",
    codes "V2,0\n",
    tt,
    refl,
    commas.0,
    (
      codes "V2",
      codes ",0\n",
      VertexField (At 2),
      refl,
      (At 2, refs.0, refl),
      (VertexField Null ∷ [], (codes ",", codes "0\n", tt, refl, commas.0, (codes "0", codes "\n", VertexField Null, refl, (Null, refs.1, refl), ([], (refl, refl), refl))), refl),
    ),
  ),
  refl,
)

-- ---- lines with a checksum

-- the digits end before something else, after which there may be others
other_digits : IsChecksumLine 2 (codes "* Checksum 2x3")
other_digits = (codes "2", codes "x3", 2, two, refl, inl (refl, refl))

-- a negative number, of any checksum
negative : IsChecksumLine 18619 (codes "* Checksum -1x")
negative = (codes "1", codes "x", 1, record { numeral = (omega arith, (omega arith, tt)); short = omega arith; writes = refl }, refl, inr (inl (omega arith), refl))

-- `-0` is not negative
minus_zero : IsChecksumLine 18619 (codes "* Checksum -0") → ⊥
minus_zero ([], anything, k, number, ends, is) = absurd (omega (arith, number.numeral.0))
minus_zero (d ∷ digits, anything, k, number, ends, inl (is, line)) =
    let byte : 45 ≡ d = ap (λ t. slice_index t 11) line in
    let digit : 36 < 10 = subst (λ b. digit_value b < 10) (sym byte) number.numeral.1.0 in
    absurd (omega (arith, digit))
minus_zero (d ∷ e ∷ digits, anything, k, number, ends, inr (is, line)) =
    let bytes : 1 ≡ suc (suc (length (digits ++ anything))) = ap (λ t. length (drop 12 t)) line in absurd (omega (arith, bytes))
minus_zero (d ∷ [], anything, k, number, ends, inr (is, line)) =
    let byte : 48 ≡ d = ap (λ t. slice_index t 12) line in
    let value : k ≡ 0 = subst (λ b. k ≡ digits_value 10 (b ∷ [])) (sym byte) number.writes in
    neither is value
  where
    neither : (0 < k) ⊎ (k ≡ 18619) → k ≡ 0 → ⊥
    neither (inl positive) value = omega (arith, positive, value)
    neither (inr sum) value = omega (arith, sum, value)
