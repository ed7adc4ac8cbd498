-- Words of small languages, and texts that go wrong in them.
use Rattle.std.proofs.Common.{◌≡◌, ◌≤◌, ◌<◌, ◌+◌, ◌++◌, ℕ, zero, suc, List, [], ◌∷◌, take, codes, ap, refl, arith}
use Rattle.std.specs.Prelude.{slice_index, pos, negsuc, Bool, true, false, map}
use Rattle.sgb_text.specs.Checksums.{agrees}
use Rattle.sgb_text.specs.Languages.{Then, After, Each, Fixed, Begins, IsLongestPrefixOf}
use Rattle.sgb_text.specs.Numbers.{IsNumber}

-- the word `no`, of value 1
abbrev no : List ℕ → ℕ → Type 0
no = Fixed 1 (codes "no")

-- `no` and then `on` are `noon`
noon : Then no (λ v. Fixed (v + 1) (codes "on")) (codes "noon") 2
noon = (codes "no", codes "on", 1, refl, (refl, refl), (refl, refl))

-- a `V` before a number
after_letter : After (codes "V") (IsNumber 10 2) (codes "V12") 12
after_letter = (codes "12", refl, record { numeral = (omega arith, (omega arith, (omega arith, tt))); short = omega arith; writes = refl })

-- two words, one after another
two_words : Each (λ text v. text ≡ v ∷ 46 ∷ []) (codes "a.b.") (97 ∷ 98 ∷ [])
two_words = (codes "a.", codes "b.", refl, refl, (codes "b.", [], refl, refl, refl))

-- `n` begins `no`
begun : Begins no (codes "n")
begun = (codes "o", 1, (refl, refl))

-- of `nx` the first byte begins `no`, and does so no longer with the second; all of `no` begins it, and not one byte alone
wrong_at_one : IsLongestPrefixOf no (codes "nx") 1
wrong_at_one = record { within = omega arith; begins = begun; longest = further }
  where
    other : (more : List ℕ) → codes "nx" ++ more ≡ codes "no" → ⊥
    other more same = let second : 120 ≡ 111 = ap (λ text. slice_index text 1) same in absurd (omega (arith, second))

    further : (j : ℕ) → 1 < j → j ≤ 2 → Begins no (take j (codes "nx")) → ⊥
    further zero past within begins = absurd (omega arith)
    further (suc zero) past within begins = absurd (omega arith)
    further (suc (suc zero)) past within (more, value, is) = other more is.0
    further (suc (suc (suc j))) past within begins = absurd (omega arith)

whole : IsLongestPrefixOf no (codes "no") 2
whole = record { within = omega arith; begins = ([], 1, (refl, refl)); longest = λ j past within begins. absurd (omega (arith, past, within)) }

not_one : IsLongestPrefixOf no (codes "no") 1 → ⊥
not_one is = is.longest 2 (omega arith) (omega arith) ([], 1, (refl, refl))

-- a number of at most two digits, in the radix 16; three are too many
two_digits : IsNumber 16 2 (codes "fF") 255
two_digits = record { numeral = (omega arith, (omega arith, (omega arith, tt))); short = omega arith; writes = refl }

three_digits : IsNumber 16 2 (codes "0fF") 255 → ⊥
three_digits is = let many : 3 ≤ 2 = is.short in absurd (omega (arith, many))

-- a checksum of 5 is taken where 5 or one below 0 is told, and no other
checksums_of_5 : map (λ told. agrees told 5) (pos 5 ∷ pos 4 ∷ pos 6 ∷ pos 0 ∷ negsuc 0 ∷ negsuc 6 ∷ []) ≡ true ∷ false ∷ false ∷ false ∷ true ∷ true ∷ []
checksums_of_5 = refl
