-- The sizes and parameters of a board, one entry or one size at a time.
use Rattle.sgb_vec.proofs.Common.{◌≡◌, ℕ, pos, ◌+◌, ◌%◌, ◌<◌, ◌≤◌, List, [], ◌∷◌, ◌++◌, true, false, get_or, length, map, Ok, refl, arith, nat_lt, range_with_len, nat_tests, map-range_with_len_more, get_or-map-range_with_len, length-map-range_with_len, list_any_at, list_any-append}
use Rattle.sgb_vec.specs.Limits.{most_entry}
use Rattle.sgb_vec.specs.Sizes.{repeated, board_by_stop}
use Rattle.sgb_vec.specs.inner.Sizes.{has_great_size}

-- no size repeated
pub repeated-none : (s : List ℕ) → repeated s 0 ≡ []
unfolding repeated
repeated-none s = refl

-- one more size repeated
pub repeated-more : (s : List ℕ) (k : ℕ) → repeated s (k + 1) ≡ repeated s k ++ get_or s (k % length s) 0 ∷ []
unfolding repeated
repeated-more s k = map-range_with_len_more (λ i. get_or s (i % length s) 0) 0 k k (omega arith)

-- a size too great among the repeated ones
pub has_great_size-repeated : (s : List ℕ) (n i : ℕ) → i < n → most_entry < get_or s (i % length s) 0 → has_great_size (repeated s n) ≡ true
unfolding repeated
has_great_size-repeated s n i h great =
    let f = λ (k : ℕ). get_or s (k % length s) 0 in
    let at : get_or (map f (range_with_len 0 n)) i 0 ≡ f i = get_or-map-range_with_len f 0 n i i 0 h (omega arith) in
    list_any_at (λ m. nat_lt most_entry m) (map f (range_with_len 0 n)) i 0 (omega (arith, length-map-range_with_len f 0 n)) (grind (arith, nat_tests))

-- one more size, which is not too great
pub has_great_size-push : (s : List ℕ) (n : ℕ) → n ≤ most_entry → has_great_size s ≡ false → has_great_size (s ++ n ∷ []) ≡ false
has_great_size-push s n h small = grind (arith, list_any-append, nat_tests)

-- 8 and 8 with zeros after them are the chessboard
pub chessboard_by_stop : board_by_stop (pos 8 ∷ pos 8 ∷ pos 0 ∷ pos 0 ∷ []) (8 ∷ 8 ∷ []) (pos 0) ≡ Ok (record { params = pos 8 ∷ pos 8 ∷ pos 0 ∷ pos 0 ∷ []; sizes = 8 ∷ 8 ∷ [] })
unfolding repeated
chessboard_by_stop = refl
