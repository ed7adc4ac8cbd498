-- How many moves a displacement makes, length by length: as many of each as there are places from which a piece
-- moves so far.
use Rattle.std.proofs.Common.{◌≡◌, ℕ, zero, suc, ◌+◌, ◌<◌, ℤ, pos, negsuc, Bool, true, false, cond, List, [], ◌∷◌, length, map, Option, None, refl, sym, ap, ◌∙◌, arith, length-append, true≢false, rules}
use Rattle.std.specs.Cmp.Lexicographic.{bytes_decides}
use Rattle.std.specs.List.{All, filter, flat_map, range_with_len}
use Rattle.std.specs.Option.{is_some, option_map_or}
use Rattle.std.proofs.lemmas.Bool.{cases_Bool}
use Rattle.std.proofs.lemmas.List.Elements.{All-head, All-tail, All-weaker}
use Rattle.sgb_vec.specs.Lexicographic.{IsBelow}
use Rattle.sgb_vec.proofs.Lists.{passing_first}
use Rattle.sgb_moves.specs.Moves.{Side, place}
use Rattle.sgb_moves.specs.VectorMoves.{same_vector}
use Rattle.sgb_gen.specs.inner.BoardCounts.{comes_home, starts_count}
use Rattle.sgb_moves.specs.inner.Moves.{destination}
use Rattle.sgb_gen.proofs.BoardCountsFarther.{farther}
use Rattle.sgb_gen.proofs.BoardCountsHome.{home-to, home-from}
use Rattle.sgb_gen.proofs.BoardCountsStarts.{passing}
use Rattle.sgb_gen.proofs.Reaches.{move, moves_until}

-- ---- any way from places

-- the moves of the n lengths from m on
abbrev pub moves_onward : (List ℕ → ℕ → Option (List ℕ)) → List (List ℕ) → ℕ → ℕ → ℕ
moves_onward g xs m n = length (flat_map (λ x. moves_until x (g x) (range_with_len m n)) xs)

until-out : (x : List ℕ) (h : ℕ → Option (List ℕ)) (m n : ℕ) → h m ≡ None → moves_until x h (range_with_len m n) ≡ []
until-out x h m zero e = refl
until-out x h m (suc n) e = ap (λ o. option_map_or (λ y. move x m y ∷ moves_until x h (range_with_len (m + 1) n)) o []) e

-- all places
onward-first : (g : List ℕ → ℕ → Option (List ℕ)) (m n : ℕ) (xs : List (List ℕ)) → All (λ x. g x m ≡ None → g x (m + 1) ≡ None) xs → moves_onward g xs m (suc n) ≡ passing (λ x. is_some (g x m)) xs + moves_onward g xs (m + 1) n
onward-first g m n [] h = refl
onward-first g m n (x ∷ xs) h = grind (arith, All-head, All-tail, passing_first, length-append, moves_until, move, until-out, onward-first g m n xs (All-tail (λ (y : List ℕ). g y m ≡ None → g y (m + 1) ≡ None) x xs h))

-- no place leads anywhere
none_first : (g : List ℕ → ℕ → Option (List ℕ)) (m n : ℕ) (x : List ℕ) (o : Option (List ℕ)) (others : ℕ) → g x m ≡ o → cond (is_some o) 1 0 + others ≡ 0 → moves_until x (g x) (range_with_len m n) ≡ []
none_first g m n x o others e h = grind (arith, until-out)

onward-none : (g : List ℕ → ℕ → Option (List ℕ)) (m n : ℕ) (xs : List (List ℕ)) → passing (λ x. is_some (g x m)) xs ≡ 0 → moves_onward g xs m n ≡ 0
onward-none g m n [] h = refl
onward-none g m n (x ∷ xs) h =
    let here = passing_first (is_some (g x m)) x (filter (λ y. is_some (g y m)) xs) in
    let own = none_first g m n x (g x m) (passing (λ y. is_some (g y m)) xs) refl (sym here ∙ h) in
    simp (moves_until, here, own, onward-none g m n xs (omega (arith, here, h)))

pub onward-end : (g : List ℕ → ℕ → Option (List ℕ)) (m : ℕ) (xs : List (List ℕ)) → moves_onward g xs m 0 ≡ 0
onward-end g m [] = refl
onward-end g m (x ∷ xs) = onward-end g m xs

-- ---- where a piece moves

abbrev AreBelow : List Side → List (List ℕ) → Type 0
AreBelow sides xs = All (λ x. IsBelow x (map (λ s. s.size) sides)) xs

pub going : (sides : List Side) (piece : ℤ) (x : List ℕ) (t : List ℤ) (l : ℕ) → IsBelow x (map (λ s. s.size) sides) → comes_home sides piece t l ≡ false → destination sides piece x t l ≡ place sides x t l
going sides piece x t l b e = search (rules, home-from, cases_Bool, true≢false, cond, same_vector, bytes_decides)

stops : (sides : List Side) (piece : ℤ) (x : List ℕ) (t : List ℤ) (l : ℕ) → IsBelow x (map (λ s. s.size) sides) → comes_home sides piece t l ≡ false → destination sides piece x t l ≡ None → destination sides piece x t (l + 1) ≡ None
stops sides piece x t l b e h = grind (arith, farther, going, cond)

-- at home no place leads anywhere
some_none : {X : Type 0} (p : X → Bool) (xs : List X) → All (λ x. p x ≡ false) xs → passing p xs ≡ 0
some_none p [] h = refl
some_none p (x ∷ xs) h = grind (arith, passing_first, cond, All-head, All-tail, some_none p xs (All-tail (λ y. p y ≡ false) x xs h))

pub starts-home : (sides : List Side) (piece : ℤ) (xs : List (List ℕ)) (t : List ℤ) (l : ℕ) → AreBelow sides xs → comes_home sides piece t l ≡ true → starts_count sides piece xs t l ≡ 0
starts-home sides (pos p) xs t l b e = absurd (cc)
starts-home sides (negsuc p) xs t l b e = search (rules, some_none, negsuc, All-weaker, home-to, bytes_decides)

-- else those do from where the steps lead to a place
same_passing : {X : Type 0} (p q : X → Bool) (xs : List X) → All (λ x. p x ≡ q x) xs → passing p xs ≡ passing q xs
same_passing p q [] h = refl
same_passing p q (x ∷ xs) h = grind (arith, passing_first, cond, All-head, All-tail, same_passing p q xs (All-tail (λ y. p y ≡ q y) x xs h))

pub starts-going : (sides : List Side) (piece : ℤ) (xs : List (List ℕ)) (t : List ℤ) (l : ℕ) → AreBelow sides xs → comes_home sides piece t l ≡ false → starts_count sides piece xs t l ≡ passing (λ x. is_some (place sides x t l)) xs
starts-going sides piece xs t l b e = grind (arith, same_passing, All-weaker, going)

-- ---- the moves by a displacement, of the n lengths from m on

abbrev pub moves_left : List Side → ℤ → List (List ℕ) → List ℤ → ℕ → ℕ → ℕ
moves_left sides piece xs t m n = moves_onward (λ x l. destination sides piece x t l) xs m n

-- those of the first length, and the others
pub left-first : (sides : List Side) (piece : ℤ) (xs : List (List ℕ)) (t : List ℤ) (m n : ℕ) → AreBelow sides xs → 0 < starts_count sides piece xs t m → moves_left sides piece xs t m (suc n) ≡ starts_count sides piece xs t m + moves_left sides piece xs t (m + 1) n
left-first sides piece xs t m n b some = grind (arith, cases_Bool, starts-home, onward-first, All-weaker, stops)

-- where none moves so far, none moves farther
pub left-none : (sides : List Side) (piece : ℤ) (xs : List (List ℕ)) (t : List ℤ) (m n : ℕ) → starts_count sides piece xs t m ≡ 0 → moves_left sides piece xs t m n ≡ 0
left-none sides piece xs t m n e = onward-none (λ x l. destination sides piece x t l) m n xs e
