-- Sizes below the least wanted one.
use Rattle.std.proofs.Common.{◌≡◌, ℕ, suc, ◌+◌, ◌-◌, ◌/◌, ◌%◌, ◌^◌, ◌<◌, ◌≤◌, true, false, sym, ap, ◌∙◌, inl, inr, arith}
use Rattle.std.specs.Int.{leading_zeros, trailing_zeros, w128}
use Rattle.std.proofs.Math.Nat.{div-div-eq-div-mul, div-eq_of_lt}
use Rattle.std.proofs.lemmas.Bool.{cases_lt}
use Rattle.std.proofs.lemmas.Nat.{leading_top, pow-add}
use Rattle.std.proofs.lemmas.Nat.Bits.{bit_at-trailing_zeros}
use Rattle.sgb_gen.specs.Subsets.{is_wanted_size}

-- where bit k is 0, k is not wanted
unwanted : (sb k : ℕ) → sb / 2 ^ k % 2 ≡ 0 → is_wanted_size sb k ≡ false
unwanted sb k clear = grind (arith)

-- the bits from one on
later_bit : (sb from k : ℕ) → from ≤ k → sb / 2 ^ k ≡ sb / 2 ^ from / 2 ^ (k - from)
later_bit sb from k h =
    ap (λ n. sb / 2 ^ n) {y = from + (k - from)} (omega arith) ∙ ap (λ n. sb / n) (pow-add 2 from (k - from)) ∙ sym (div-div-eq-div-mul sb (2 ^ from) (2 ^ (k - from)))

-- nor are sizes from one on that are below the least bit of 1
pub unwanted-below : (sb from k later : ℕ) → later ≡ sb / 2 ^ from → later < 2 ^ 128 → from ≤ k → k < from + trailing_zeros w128 later → is_wanted_size sb k ≡ false
unwanted-below sb from k later is small h below =
    unwanted sb k (elim (cases_lt 0 later) [
      | inl some ↦ ap (λ n. n % 2) (later_bit sb from k h ∙ ap (λ n. n / 2 ^ (k - from)) (sym is)) ∙ (bit_at-trailing_zeros w128 later some small).2 (k - from) (omega arith)
      | inr none ↦ ap (λ n. n % 2) (later_bit sb from k h ∙ ap (λ n. n / 2 ^ (k - from)) {y = 0} (sym is ∙ omega arith)) ∙ zero_bits (k - from)
    ]) where
      zero_bits : (j : ℕ) → 0 / 2 ^ j % 2 ≡ 0
      zero_bits j = omega arith

never : {X : Type 0} → true ≡ false → X
never e = cc

-- a wanted size is none below the least bit of 1
pub wanted-from : (sb k : ℕ) → sb < 2 ^ 128 → is_wanted_size sb k ≡ true → trailing_zeros w128 sb ≤ k
wanted-from sb k small wanted =
    elim (cases_lt k (trailing_zeros w128 sb)) [
      | inl below ↦ never (sym wanted ∙ unwanted-below sb 0 k sb (omega arith) small (omega arith) (omega arith))
      | inr within ↦ within
    ]

-- nor one above the greatest
pub wanted-to : (sb k : ℕ) → sb < 2 ^ 128 → is_wanted_size sb k ≡ true → k ≤ 127 - leading_zeros w128 sb
wanted-to sb k small wanted =
    elim (cases_lt 0 sb) [
      | inl some ↦
          let (j, count, _, top) = leading_top 128 sb some small in
          elim (cases_lt j k) [
            | inl above ↦ never (sym wanted ∙ unwanted sb k (ap (λ n. n % 2) (later_bit sb (suc j) k (omega arith) ∙ ap (λ n. n / 2 ^ (k - suc j)) (div-eq_of_lt top)) ∙ zero_bit (k - suc j)))
            | inr within ↦ omega (arith, count, within)
          ]
      | inr none ↦ never (sym wanted ∙ unwanted sb k (ap (λ n. n / 2 ^ k % 2) {y = 0} (omega (arith, none)) ∙ zero_bit k))
    ] where
      zero_bit : (j : ℕ) → 0 / 2 ^ j % 2 ≡ 0
      zero_bit j = omega arith
