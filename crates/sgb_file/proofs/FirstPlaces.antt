-- A text that is looked through sixteen elements at a time.
use Rattle.sgb_vec.proofs.Common.{rules, ◌≡◌, ◌+◌, ◌≤◌, ℕ, Bool, List, length, take, drop, position_or_len, take-append-drop, length-take}
use Rattle.sgb_file.proofs.LeftTexts.{first_beyond, none_before}

-- none of them passes
pub found_later : (p : ℕ → Bool) (xs : List ℕ) (few : ℕ) → 16 ≤ length xs → few ≡ position_or_len p (take 16 xs) → 16 ≤ few
    → position_or_len p xs ≡ 16 + position_or_len p (drop 16 xs)
found_later p xs few long e none = search (rules, length-take, take-append-drop, first_beyond, none_before)
