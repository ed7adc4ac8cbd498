-- The name of a vector read back: cut at its dots, each part is the decimal of an entry.
use Rattle.sgb_vec.proofs.Common.{rules, ◌≡◌, ℕ, ◌<◌, ◌≤◌, ◌^◌, Bool, true, false, cond, eqb, ◌&&◌, List, [], ◌∷◌, length, get_or, map, refl, ap, ap₂, subst, ◌∙◌, arith, decimal, Some, None, nat_eq, length-append, All, join_with_byte, slice_split, pointwise, digits_value, leb-true, le-leb, ne_eqb, and_parts, decimal_is_IsNumeral, All-from_get_or, All-head, All-tail, All-weaker, get_or-map, length-map, AllPass-from_list_all, list_all-from_AllPass}
use Rattle.std.proofs.lemmas.List.Splits.{slice_split_none, slice_split_at, join_with_byte-slice_split}
use Rattle.std.proofs.lemmas.Str.Parse.{digit_at}
use Rattle.sgb_vec.specs.Limits.{most_entry}
use Rattle.sgb_vec.specs.Names.{name_of_vector}
use Rattle.sgb_vec.specs.NamedVectors.{IsVector, is_vector, numbers_between_dots, vector_of}

-- a byte that is a dot
abbrev pub is_dot : ℕ → Bool
is_dot c = eqb c 46

-- the entries of a vector that a name may stand for
abbrev AllSmall : List ℕ → Type 0
AllSmall x = All (λ entry. entry ≤ most_entry) x

-- the test of a vector tells what it is to tell
IsVector-from_test : (x : List ℕ) → is_vector x ≡ true → IsVector x
IsVector-from_test x h = grind (arith, and_parts, leb-true, All-weaker, AllPass-from_list_all)

-- a decimal has no dot in it
no_dot-decimal : (n : ℕ) → n ≤ most_entry → All (λ c. is_dot c ≡ false) (decimal n)
no_dot-decimal n h =
    let numeral = decimal_is_IsNumeral n (omega arith) in
    All-from_get_or (λ c. is_dot c ≡ false) (decimal n) 0
    (λ i within. let digit = digit_at (decimal n) i numeral.0.1 within in
    ne_eqb (get_or (decimal n) i 0) 46 (λ e. absurd (omega (arith, digit.0))))

-- the name cut at its dots
slice_split-name : (entry : ℕ) (x : List ℕ) → AllSmall (entry ∷ x) → slice_split is_dot (join_with_byte 46 (map decimal (entry ∷ x))) ≡ map decimal (entry ∷ x)
slice_split-name entry [] h = slice_split_none is_dot (decimal entry) (no_dot-decimal entry (All-head (λ e. e ≤ most_entry) entry [] h))
slice_split-name entry (next ∷ x) h = search (rules, slice_split_at, no_dot-decimal, All-head, slice_split-name next x (All-tail (λ e. e ≤ most_entry) entry (next ∷ x) h))

-- the parts read as numbers
values-decimals : (x : List ℕ) → AllSmall x → map (λ part. digits_value 10 part) (map decimal x) ≡ x
values-decimals [] h = refl
values-decimals (entry ∷ x) h =
    let small : entry ≤ most_entry = All-head (λ e. e ≤ most_entry) entry x h in
    ap₂ (λ e es. e ∷ es) (decimal_is_IsNumeral entry (omega arith)).1 (values-decimals x (All-tail (λ e. e ≤ most_entry) entry x h))

-- a text that is not empty has parts
numbers-nonempty : (text : List ℕ) → 0 < length text → numbers_between_dots text ≡ map (λ part. digits_value 10 part) (slice_split is_dot text)
numbers-nonempty text h = grind (arith)

-- the name of a vector that is not empty is not empty
nonempty-name : (entry : ℕ) (x : List ℕ) → entry ≤ most_entry → 0 < length (join_with_byte 46 (map decimal (entry ∷ x)))
nonempty-name entry x h = grind (arith, decimal_is_IsNumeral, length-append)

-- the numbers between the dots of a name are the entries
numbers-name : (x : List ℕ) → AllSmall x → numbers_between_dots (name_of_vector x) ≡ x
unfolding name_of_vector
numbers-name [] h = refl
numbers-name (entry ∷ x) h = search (rules, numbers-nonempty, nonempty-name, All-head, slice_split-name, values-decimals)

-- a choice that gave something
chosen : (t : Bool) (x y : List ℕ) → cond t (Some x) None ≡ Some y → (t ≡ true) × (x ≡ y)
chosen t x y e = grind (arith)

-- what a text stands for is a vector whose name it is
pub named-vector_of : (text x : List ℕ) → vector_of text ≡ Some x → IsVector x × (name_of_vector x ≡ text)
unfolding vector_of
named-vector_of text x e =
    let y = numbers_between_dots text in
    let taken = chosen (is_vector y && pointwise nat_eq (name_of_vector y) text) y x e in
    search (rules, IsVector-from_test)

-- the name of a vector stands for it
pub vector_of-name : (x : List ℕ) → IsVector x → vector_of (name_of_vector x) ≡ Some x
unfolding vector_of
vector_of-name x h = search (rules, numbers-name, le-leb, list_all-from_AllPass)

-- entries whose decimals are the parts of a text make up its name
pub name_of_parts : (x text : List ℕ) → map decimal x ≡ slice_split is_dot text → name_of_vector x ≡ text
unfolding name_of_vector
name_of_parts x text same = ap (join_with_byte 46) same ∙ join_with_byte-slice_split 46 text

-- the parts of a name are the decimals of the entries
pub parts_of_name : (x text : List ℕ) → IsVector x → name_of_vector x ≡ text → 0 < length text → slice_split is_dot text ≡ map decimal x
unfolding name_of_vector
parts_of_name [] text is same some = absurd (omega (arith, ap length same))
parts_of_name (entry ∷ x) text is same some = subst (λ t. slice_split is_dot t ≡ map decimal (entry ∷ x)) same (slice_split-name entry x is.small)

-- a part of a name is the decimal of a number below 2 ^ 32
pub part_is_decimal : (x text part : List ℕ) (k : ℕ) → IsVector x → name_of_vector x ≡ text → 0 < length text → k < length (slice_split is_dot text)
    → part ≡ get_or (slice_split is_dot text) k part → (get_or x k 0 < 2 ^ 32) × (decimal (get_or x k 0) ≡ part)
part_is_decimal x text part k is same some within at =
    let parts = parts_of_name x text is same some in
    grind (arith, length-map, get_or-map)

-- a name has no more parts than a vector has entries
pub few_parts : (x text : List ℕ) → IsVector x → name_of_vector x ≡ text → 0 < length text → length (slice_split is_dot text) ≤ 251
few_parts x text is same some =
    let parts = parts_of_name x text is same some in
    omega (arith, is.short, ap length parts, length-map x decimal)
