-- Lemmas on the lines of a piece that is broken.
use Rattle.sgb_vec.proofs.Common.{arith, ap, length-append, inl, inr, ◌≡◌, ℕ, zero, suc, ◌+◌, ◌*◌, ◌<◌, ◌≤◌, List, [], ◌∷◌, ◌++◌, map, length, take, drop, refl, range_with_len, drop-drop, drop-append-le, take-append-le, length-drop, cases_lt}
use Rattle.sgb_file.specs.Saving.{breaks_of}
use Rattle.sgb_file.specs.inner.SavedLines.{broken_lines, last_part}

-- a broken line of a piece, and what stands for it on the list
abbrev broken_line : List ℕ → ℕ → List ℕ
broken_line piece k = take 78 (drop (78 * k) piece) ++ 92 ∷ []

-- a piece that is short is not broken
pub breaks-short : (piece : List ℕ) → length piece ≤ 79 → breaks_of piece ≡ 0
breaks-short piece h = omega arith

pub broken-short : (piece : List ℕ) → length piece ≤ 79 → broken_lines piece ≡ []
broken-short piece h = rw (breaks-short piece h) refl

pub last-short : (piece : List ℕ) → length piece ≤ 79 → last_part piece ≡ piece
last-short piece h = rw (breaks-short piece h) refl

-- numbers from the next one on
shifted : {X : Type 0} (f : ℕ → X) (a n : ℕ) → map f (range_with_len (a + 1) n) ≡ map (λ k. f (k + 1)) (range_with_len a n)
shifted f a zero = refl
shifted f a (suc n) = ap (λ xs. f (a + 1) ∷ xs) (shifted f (a + 1) n)

-- a piece that is long is broken once, and what is left of it as often as it needs
pub breaks-long : (piece : List ℕ) → 79 < length piece → breaks_of piece ≡ suc (breaks_of (drop 78 piece))
breaks-long piece h = rw length-drop (omega arith)

next_lines : (piece : List ℕ) (ks : List ℕ) → map (λ k. broken_line piece (k + 1)) ks ≡ map (broken_line (drop 78 piece)) ks
next_lines piece [] = refl
next_lines piece (k ∷ ks) =
    let place : 78 * (k + 1) ≡ 78 + 78 * k = omega arith in rw (place, drop-drop (78 * k) 78 piece, next_lines piece ks) refl

pub broken-long : (piece : List ℕ) → 79 < length piece → broken_lines piece ≡ (take 78 piece ++ 92 ∷ []) ∷ broken_lines (drop 78 piece)
broken-long piece h =
    rw (breaks-long piece h, shifted (broken_line piece) 0 (breaks_of (drop 78 piece)), next_lines piece (range_with_len 0 (breaks_of (drop 78 piece)))) refl

pub last-long : (piece : List ℕ) → 79 < length piece → last_part piece ≡ last_part (drop 78 piece)
last-long piece h =
    let n = breaks_of (drop 78 piece) in
    let place : 78 * suc n ≡ 78 + 78 * n = omega arith in
    rw (breaks-long piece h, place, drop-drop (78 * n) 78 piece) refl

-- a piece of 80 bytes is broken once
pub broken-once : (line : List ℕ) (byte : ℕ) → length line ≡ 79 → broken_lines (line ++ byte ∷ []) ≡ (take 78 line ++ 92 ∷ []) ∷ []
broken-once line byte h =
    let size : length (line ++ byte ∷ []) ≡ 80 = rw length-append (omega (arith, h)) in
    let left : length (drop 78 (line ++ byte ∷ [])) ≤ 79 = rw length-drop (omega (arith, size)) in
    rw (broken-long (line ++ byte ∷ []) (omega (arith, size)), broken-short (drop 78 (line ++ byte ∷ [])) left, take-append-le 78 line (byte ∷ []) (omega (arith, h))) refl

pub last-once : (line : List ℕ) (byte : ℕ) → length line ≡ 79 → last_part (line ++ byte ∷ []) ≡ drop 78 line ++ byte ∷ []
last-once line byte h =
    let size : length (line ++ byte ∷ []) ≡ 80 = rw length-append (omega (arith, h)) in
    let left : length (drop 78 (line ++ byte ∷ [])) ≤ 79 = rw length-drop (omega (arith, size)) in
    grind (arith, last-long, last-short, drop-append-le, size, left)

-- a piece can be broken a part at a time: what is left of the first part begins the next
broken-append-by : (n : ℕ) (xs ys : List ℕ) → length xs < n
    → (broken_lines (xs ++ ys) ≡ broken_lines xs ++ broken_lines (last_part xs ++ ys)) × (last_part (xs ++ ys) ≡ last_part (last_part xs ++ ys))
broken-append-by zero xs ys h = absurd (omega (arith, h))
broken-append-by (suc n) xs ys h =
    elim (cases_lt 79 (length xs)) [
      | inl long ↦
          let more = broken-append-by n (drop 78 xs) ys (rw length-drop (omega (arith, long, h))) in
          let whole : 79 < length (xs ++ ys) = rw length-append (omega (arith, long)) in
          rw (broken-long (xs ++ ys) whole, last-long (xs ++ ys) whole, broken-long xs long, last-long xs long)
          (rw (take-append-le 78 xs ys (omega (arith, long)), drop-append-le 78 xs ys (omega (arith, long)), more.0, more.1) (refl, refl))
      | inr short ↦ rw (broken-short xs short, last-short xs short) (refl, refl)
    ]

pub broken-append : (xs ys : List ℕ) → broken_lines (xs ++ ys) ≡ broken_lines xs ++ broken_lines (last_part xs ++ ys)
broken-append xs ys = (broken-append-by (suc (length xs)) xs ys (omega arith)).0

pub last-append : (xs ys : List ℕ) → last_part (xs ++ ys) ≡ last_part (last_part xs ++ ys)
last-append xs ys = (broken-append-by (suc (length xs)) xs ys (omega arith)).1
