-- Facts from tests that are tried out.
use Rattle.sgb_vec.proofs.Common.{arith, ◌≡◌, ℕ, ◌<◌, Bool, true, not, ◌&&◌, ◌||◌, length, list_all, range_with_len, AllPass-from_list_all, length-range_with_len, get_or-range_with_len}

-- a test that passes at each number below n, tried one by one
pub at_each_below : (test : ℕ → Bool) (n : ℕ) → list_all test (range_with_len 0 n) ≡ true → (k : ℕ) → k < n → test k ≡ true
at_each_below test n passes k below =
    let inside : k < length (range_with_len 0 n) = rw length-range_with_len below in
    let there = AllPass-from_list_all test (range_with_len 0 n) passes k 0 inside in
    grind (arith, get_or-range_with_len, inside, there)

-- of two tests that both pass, the first and the second
pub both_first : (p q : Bool) → (p && q) ≡ true → p ≡ true
both_first p q e = grind (arith)

pub both_second : (p q : Bool) → (p && q) ≡ true → q ≡ true
both_second p q e = grind (arith)

-- a test that passes where another does
pub where_passes : (p q : Bool) → (not p || q) ≡ true → p ≡ true → q ≡ true
where_passes p q e h = grind (arith)
