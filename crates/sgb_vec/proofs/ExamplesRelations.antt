-- Worked examples of codes, of what a string may hold, of the order of vectors and of places among them: what holds, and what
-- nearly does.
use Rattle.std.specs.Prelude.{◌≡◌, ◌≤◌, ◌<◌, ℕ, zero, suc, true, false, replicate, pos, negsuc, List, [], ◌∷◌, map, Ok, Err, codes, refl, slice_index_or}
use Rattle.std.proofs.Common.{arith, inl, inr}
use Rattle.sgb_vec.specs.Codes.{code_of}
use Rattle.sgb_vec.specs.Digits.{leading_digits}
use Rattle.sgb_vec.specs.Lexicographic.{IsBelow, IsWithin}
use Rattle.sgb_vec.specs.NamedVectors.{IsVector}
use Rattle.sgb_vec.specs.Names.{IsText, is_text_byte}
use Rattle.sgb_vec.specs.Order.{IsFirst, IsNext, IsLast, IsFinal, IsPrevious, HasNoneBefore}
use Rattle.sgb_vec.specs.Ranges.{ComeAfter}
use Rattle.sgb_vec.specs.Results.{IsValue}
use Rattle.sgb_vec.specs.Sizes.{stop_of}
use Rattle.sgb_vec.specs.Sums.{sum_of, has_great_count}
use Rattle.sgb_vec.specs.Visits.{changed_entries, HasVisited}
use Rattle.sgb_vec.specs.declared.panics.Panic.TheVariants.{NoRoom, Early, Late, Syntax, Bad, VeryBad, Invalid}

-- ---- codes, digits, stops, bytes

pub codes_of_panics : map code_of (NoRoom ∷ Early ∷ Late ∷ Syntax ∷ Bad ∷ VeryBad ∷ Invalid ∷ []) ≡ 1 ∷ 10 ∷ 11 ∷ 20 ∷ 30 ∷ 40 ∷ 60 ∷ []
codes_of_panics = refl

pub digits_of_texts : (leading_digits 10 3 (codes "12345") ≡ codes "123") × (leading_digits 16 9 (codes "1f,2") ≡ codes "1f")
digits_of_texts = (refl, refl)

-- a 0 stands after the last entry
pub stops : map stop_of ([] ∷ (pos 4 ∷ []) ∷ (pos 4 ∷ pos 0 ∷ negsuc 2 ∷ []) ∷ (pos 4 ∷ negsuc 2 ∷ pos 0 ∷ []) ∷ []) ≡ pos 0 ∷ pos 0 ∷ pos 0 ∷ negsuc 2 ∷ []
stops = refl

-- a sum of 1,000,000,000 is not too great
pub greatest_sum : sum_of (pos 1_000_000_000) (1 ∷ []) ≡ Ok (record { total = 1_000_000_000; bounds = 1 ∷ [] })
unfolding has_great_count
greatest_sum = refl

-- the bytes at the limits, and next to `"` and `\`
pub bytes_at_limits : map is_text_byte (31 ∷ 32 ∷ 33 ∷ 34 ∷ 35 ∷ 91 ∷ 92 ∷ 93 ∷ 126 ∷ 127 ∷ [])
    ≡ false ∷ true ∷ true ∷ false ∷ true ∷ true ∷ false ∷ true ∷ true ∷ false ∷ []
bytes_at_limits = refl

pub text_too_long : IsText (replicate 4_096 97) → ⊥
text_too_long is = let many : 4_096 ≤ 4_095 = is.short in absurd (omega (arith, many))

-- ---- vectors below sizes and within bounds, and vectors that names may stand for

pub below : IsBelow (0 ∷ 2 ∷ []) (1 ∷ 3 ∷ [])
below = (omega arith, (omega arith, record {}))

pub not_below : IsBelow (1 ∷ []) (1 ∷ []) → ⊥
not_below is = absurd (omega (arith, is.0))

pub within : IsWithin (1 ∷ 2 ∷ []) (1 ∷ 3 ∷ [])
within = (omega arith, (omega arith, record {}))

pub not_within : IsWithin (2 ∷ []) (1 ∷ []) → ⊥
not_within is = absurd (omega (arith, is.0))

pub vector_too_long : IsVector (replicate 252 0) → ⊥
vector_too_long is = let many : 252 ≤ 251 = is.short in absurd (omega (arith, many))

pub entry_too_great : IsVector (4_294_967_296 ∷ []) → ⊥
entry_too_great is = let great : 4_294_967_296 ≤ 4_294_967_295 = is.small 0 0 (omega arith) in absurd (omega (arith, great))

pub greatest_entry : IsVector (4_294_967_295 ∷ [])
greatest_entry = record { short = omega arith; small = small }
  where
    small : (k d : ℕ) → k < 1 → slice_index_or (4_294_967_295 ∷ []) k d ≤ 4_294_967_295
    small zero d inside = omega arith
    small (suc k) d inside = absurd (omega (arith, inside))

-- ---- places among vectors

abbrev three : List (List ℕ)
three = (5 ∷ []) ∷ (6 ∷ []) ∷ (7 ∷ []) ∷ []

pub first_of_three : IsFirst three (5 ∷ [])
first_of_three = refl

pub next_of_three : IsNext three (5 ∷ []) (6 ∷ [])
next_of_three zero at = refl
next_of_three (suc zero) at = absurd cc
next_of_three (suc (suc zero)) at = absurd cc
next_of_three (suc (suc (suc i))) at = absurd cc

pub last_of_three : IsLast three (7 ∷ [])
last_of_three zero at = absurd cc
last_of_three (suc zero) at = absurd cc
last_of_three (suc (suc zero)) at = refl
last_of_three (suc (suc (suc i))) at = absurd cc

pub final_of_three : IsFinal three (7 ∷ [])
final_of_three = refl

pub previous_of_three : IsPrevious three (6 ∷ []) (5 ∷ [])
previous_of_three zero at = absurd cc
previous_of_three (suc zero) at = (omega arith, refl)
previous_of_three (suc (suc zero)) at = absurd cc
previous_of_three (suc (suc (suc i))) at = absurd cc

pub previous_of_last : IsPrevious three (7 ∷ []) (6 ∷ [])
previous_of_last zero at = absurd cc
previous_of_last (suc zero) at = absurd cc
previous_of_last (suc (suc zero)) at = (omega arith, refl)
previous_of_last (suc (suc (suc i))) at = absurd cc

-- the first is not before itself
pub none_before : IsPrevious three (5 ∷ []) (5 ∷ []) → ⊥
none_before is = absurd (omega (arith, (is 0 refl).0))

pub first_has_none_before : HasNoneBefore three (5 ∷ [])
first_has_none_before zero at = refl
first_has_none_before (suc zero) at = absurd cc
first_has_none_before (suc (suc zero)) at = absurd cc
first_has_none_before (suc (suc (suc i))) at = absurd cc

pub those_after : ComeAfter three (6 ∷ []) ((7 ∷ []) ∷ [])
those_after = ((5 ∷ []) ∷ [], refl)

-- ---- results and visits

pub out_of_memory : IsValue {T = ℕ} (Ok 1) (Err NoRoom)
out_of_memory = inr refl

pub other_refusal : IsValue {T = ℕ} (Err Bad) (Err VeryBad) → ⊥
other_refusal (inl is) = absurd cc
other_refusal (inr is) = absurd cc

pub two_changed : changed_entries (1 ∷ 2 ∷ 3 ∷ []) (1 ∷ 5 ∷ 6 ∷ []) ≡ 2
two_changed = refl

-- of three entries two were changed: 2 to 6 visits
pub visits : HasVisited 3 2 10 12 × HasVisited 3 2 10 16
visits = ((omega arith, omega arith), (omega arith, omega arith))

pub too_few_visits : HasVisited 3 2 10 11 → ⊥
too_few_visits is = absurd (omega (arith, is.0))

pub too_many_visits : HasVisited 3 2 10 17 → ⊥
too_many_visits is = absurd (omega (arith, is.1))
