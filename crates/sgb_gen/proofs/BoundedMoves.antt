-- A displacement with an entry above its bound leads to no place of a board, so the moves of a board are those by the
-- displacements within the bounds.
use Rattle.std.proofs.lemmas.Nat.{mul-le}
use Rattle.std.proofs.Common.{◌≡◌, ℕ, zero, suc, ◌+◌, ◌-◌, ◌<◌, ◌≤◌, min, ℤ, pos, negsuc, ◌+ℤ◌, ◌*ℤ◌, nat_abs, Bool, cond, eqb, ltb, List, [], ◌∷◌, ◌++◌, length, map, replicate, get_or, Option, None, refl, sym, ap, subst, ◌∙◌, inl, inr, arith}
use Rattle.std.specs.List.{filter, flat_map, range_with_len}
use Rattle.std.specs.Option.{option_map_or}
use Rattle.std.proofs.lemmas.Bool.{cases_Bool, cases_lt, cond-false, le-ltb, eqb-true}
use Rattle.std.proofs.lemmas.Bool.Decides.{nat_tests}
use Rattle.std.proofs.lemmas.Grind.{flat_map-append}
use Rattle.std.proofs.lemmas.Int.{ints}
use Rattle.std.proofs.lemmas.List.{get_or-map, get_or-replicate, length-map, length-replicate}
use Rattle.std.proofs.lemmas.List.Elements.{Contains-get_or}
use Rattle.std.proofs.lemmas.List.Folds.{flat_map-map}
use Rattle.sgb_vec.specs.Boxes.{box}
use Rattle.sgb_vec.specs.Lexicographic.{IsBelow}
use Rattle.sgb_vec.proofs.BoxPlaces.{IsBelow-from_Contains}
use Rattle.sgb_gen.specs.Boards.{BoardData, moves_of_board}
use Rattle.sgb_moves.specs.Displacements.{signings, sum_of_squares, vectors_of_norm, displacements}
use Rattle.sgb_moves.specs.inner.EntryBounds.{entry_bound, entry_bounds, vectors_within, displacements_within}
use Rattle.sgb_moves.specs.Moves.{Side, sides_of, within_size, coordinate_on, in_front, is_elsewhere, place, moves_from, board_moves}
use Rattle.sgb_moves.specs.inner.Moves.{destination, longest_move}
use Rattle.sgb_gen.specs.inner.LocalBoards.{moves_by}
use Rattle.sgb_gen.specs.VectorGraphs.{event_among}
use Rattle.sgb_moves.proofs.AllVectors.{flat_map-same, rows-cut}
use Rattle.sgb_gen.proofs.BoardEvents.{events_by, events_by-moves, events_of}
use Rattle.sgb_moves.proofs.Completions.{squares-cons}
use Rattle.sgb_gen.proofs.DisplacementLengths.{signings-sizes}
use Rattle.sgb_moves.proofs.NextSignings.{sizes_of}
use Rattle.sgb_gen.proofs.Reaches.{sizes_of_sides, move, moves_until, moves_from-until}
use Rattle.sgb_vec.proofs.Lists.{flat_map-none}

-- ---- the bounds, side by side

-- a bound for each size
pub length-entry_bounds : (p : ℕ) (sizes : List ℕ) (wrap : ℤ) → length (entry_bounds p (sides_of sizes wrap)) ≡ length sizes
length-entry_bounds p sizes wrap =
    cc (length-map (sides_of sizes wrap) (entry_bound p), length-map (sides_of sizes wrap) (λ s. s.size), sizes_of_sides 0 sizes wrap)

-- ---- off the board

-- a step as long as the side leads off it
off_side : (n z : ℕ) (u : ℤ) → z < n → n - 1 < nat_abs u → within_size n (pos z +ℤ pos 1 *ℤ u) ≡ None
off_side n z u h far = grind (arith, ints, negsuc, cond-false, ltb, le-ltb)

pub in_front-none : (o : Option ℕ) → in_front o None ≡ None
in_front-none o = grind (arith)

-- an entry above its bound leads to no place
place-off : (p : ℕ) (sides : List Side) (x : List ℕ) (t : List ℤ) (k : ℕ) → IsBelow x (map (λ s. s.size) sides) → k < length sides → get_or (entry_bounds p sides) k 0 < nat_abs (get_or t k (pos 0)) → nat_abs (get_or t k (pos 0)) ≤ p → place sides x t 1 ≡ None
place-off p [] x t k b h far small = absurd (omega arith)
place-off p (s ∷ sides) [] t k b h far small = absurd b
place-off p (s ∷ sides) (z ∷ x) [] k b h far small = refl
place-off p (s ∷ sides) (z ∷ x) (u ∷ t) zero b h far small = grind (arith, off_side)
place-off p (s ∷ sides) (z ∷ x) (u ∷ t) (suc k) b h far small =
    cc (place-off p sides x t k b.1 (omega arith) far small, in_front-none (coordinate_on s (pos z +ℤ pos 1 *ℤ u)))

until-none : (x : List ℕ) (g : ℕ → Option (List ℕ)) (n : ℕ) → g 1 ≡ None → moves_until x g (range_with_len 1 n) ≡ []
until-none x g zero h = refl
until-none x g (suc n) h = ap (λ o. option_map_or (λ y. move x 1 y ∷ moves_until x g (range_with_len 2 n)) o []) h

-- the bounds of a board's entries
abbrev pub bounds_of : BoardData → List ℕ
bounds_of b = entry_bounds (nat_abs b.piece) (sides_of b.sizes b.wrap)

-- nothing is made by a displacement of piece p with an entry above its bound
abbrev pub IsOff : {X : Type 0} → ℕ → List ℕ → (List ℤ → List X) → Type 0
IsOff p bs f = (t : List ℤ) (k : ℕ) → k < length bs → get_or bs k 0 < nat_abs (get_or t k (pos 0)) → nat_abs (get_or t k (pos 0)) ≤ p → f t ≡ []

-- no move is made where the first step leads to no place
moves-none : (sides : List Side) (piece : ℤ) (x : List ℕ) (t : List ℤ) → place sides x t 1 ≡ None → moves_from sides piece x t ≡ []
moves-none sides piece x t off = moves_from-until sides piece x t ∙ until-none x (destination sides piece x t) (longest_move sides piece) (none_there piece)
  where
    none_there : (p : ℤ) → destination sides p x t 1 ≡ None
    none_there (pos p) = off
    none_there (negsuc p) = ap (λ o. cond (is_elsewhere x o) o None) off

-- no move, and so no event
moves-off : (b : BoardData) → IsOff (nat_abs b.piece) (bounds_of b) (moves_by (sides_of b.sizes b.wrap) b.piece (box b.sizes))
moves-off b t k h far small =
    let sides = sides_of b.sizes b.wrap in
    flat_map-none (λ y. moves_from sides b.piece y t) (box b.sizes)
    (λ i d within.
    let y = get_or (box b.sizes) i d in
    let below : IsBelow y b.sizes = IsBelow-from_Contains b.sizes y (Contains-get_or (box b.sizes) i d within) in
    moves-none sides b.piece y t
    (place-off (nat_abs b.piece) sides y t k (subst (IsBelow y) (sym (sizes_of_sides 0 b.sizes b.wrap)) below) (omega (arith, h, length-map sides (entry_bound (nat_abs b.piece)))) far small))

events-off : (b : BoardData) → IsOff (nat_abs b.piece) (bounds_of b) (events_by b)
events-off b t k h far small =
    events_by-moves b t ∙ ap (map (event_among (box b.sizes))) (moves-off b t k h far small)

-- ---- all vectors, and those within the bounds

-- what a vector's signings make
abbrev by_signings : {X : Type 0} → (List ℤ → List X) → List ℕ → List X
by_signings f v = flat_map f (signings v)

size_at : (t : List ℤ) (k : ℕ) → get_or (sizes_of t) k 0 ≡ nat_abs (get_or t k (pos 0))
size_at (x ∷ t) (suc k) = size_at t k
size_at _ _ = refl

-- those of a vector with an entry above its bound make nothing
vector-off : {X : Type 0} (p : ℕ) (bs : List ℕ) (f : List ℤ → List X) → IsOff p bs f → (v : List ℕ) (k : ℕ) → k < length bs → get_or bs k 0 < get_or v k 0 → get_or v k 0 ≤ p → by_signings f v ≡ []
vector-off p bs f off v k h far small =
    flat_map-none f (signings v)
    (λ i d within.
    let t = get_or (signings v) i d in
    let size : nat_abs (get_or t k (pos 0)) ≡ get_or v k 0 = sym (size_at t k) ∙ ap (λ w. get_or w k 0) (signings-sizes v i d within) in
    off t k h (omega (arith, far, size)) (omega (arith, small, size)))

-- no entry is above the sum of the squares
entry-le : (v : List ℕ) (k : ℕ) → get_or v k 0 ≤ sum_of_squares v
entry-le [] k = omega arith
entry-le (x ∷ v) zero = grind (arith, squares-cons, mul-le)
entry-le (x ∷ v) (suc k) = omega (arith, squares-cons x v, entry-le v k)

-- what the vectors that pass a test make
abbrev by_test : {X : Type 0} → (List ℤ → List X) → (List ℕ → Bool) → List ℕ → List X
by_test f q v = cond (q v) (flat_map f (signings v)) []

by_vectors : {X : Type 0} (f : List ℤ → List X) (q : List ℕ → Bool) (vs : List (List ℕ)) → flat_map f (flat_map signings (filter q vs)) ≡ flat_map (by_test f q) vs
by_vectors f q [] = refl
by_vectors f q (v ∷ vs) = grind (arith, cond, by_test, flat_map-append, by_vectors f q vs)

-- a map of lists joined, joined
pub flat_map-flat_map : {X Y Z : Type 0} (f : Y → List Z) (g : X → List Y) (xs : List X) → flat_map f (flat_map g xs) ≡ flat_map (λ x. flat_map f (g x)) xs
flat_map-flat_map f g [] = refl
flat_map-flat_map f g (x ∷ xs) = flat_map-append f (g x) (flat_map g xs) ∙ ap (λ ys. flat_map f (g x) ++ ys) (flat_map-flat_map f g xs)

-- g makes nothing of a vector with an entry of the size or more
abbrev EndsAt : {X : Type 0} → (List ℕ → List X) → List ℕ → Type 0
EndsAt g ns = (v : List ℕ) (k : ℕ) → k < length ns → get_or ns k 0 ≤ get_or v k 0 → g v ≡ []

-- what g makes of the vectors of a box, by their first entry
box-rows : {X : Type 0} (g : List ℕ → List X) (n : ℕ) (ns : List ℕ) → flat_map g (box (n ∷ ns)) ≡ flat_map (λ x. flat_map (λ v. g (x ∷ v)) (box ns)) (range_with_len 0 n)
unfolding box
box-rows g n ns = grind (arith, flat_map-flat_map, flat_map-same, flat_map-map)

-- boxes at whose ends it makes nothing give the same
box-same : {X : Type 0} (g : List ℕ → List X) (ns ms : List ℕ) → length ns ≡ length ms → EndsAt g ns → EndsAt g ms → flat_map g (box ns) ≡ flat_map g (box ms)
box-same g [] [] e h i = refl
box-same {X} g (n ∷ ns) (m ∷ ms) e h i =
    let row : List ℕ → ℕ → List X = λ ls x. flat_map (λ v. g (x ∷ v)) (box ls) in
    let same : (x : ℕ) → row ns x ≡ row ms x = λ x. box-same (λ v. g (x ∷ v)) ns ms (omega arith) (λ v k l far. h (x ∷ v) (suc k) (omega arith) far) (λ v k l far. i (x ∷ v) (suc k) (omega arith) far) in
    let past : (ls : List ℕ) (x : ℕ) → 0 + min n m ≤ x → row ls x ≡ [] = λ ls x far.
    flat_map-none (λ v. g (x ∷ v)) (box ls)
    (λ j w l. elim (cases_lt x n) [
      | inl less ↦ i (x ∷ get_or (box ls) j w) 0 (omega arith) (omega arith)
      | inr more ↦ h (x ∷ get_or (box ls) j w) 0 (omega arith) more
    ]) in
    box-rows g n ns
    ∙ rows-cut (row ns) 0 (min n m) n (omega arith) (past ns)
    ∙ flat_map-same (row ns) (row ms) same (range_with_len 0 (min n m))
    ∙ sym (rows-cut (row ms) 0 (min n m) m (omega arith) (past ms))
    ∙ sym (box-rows g m ms)
box-same g _ _ e h i = absurd (omega arith)

-- what a vector of the piece's norm makes
abbrev by_norm : {X : Type 0} → ℕ → (List ℤ → List X) → List ℕ → List X
by_norm p f v = by_test f (λ w. eqb (sum_of_squares w) p) v

ends-within : {X : Type 0} (p : ℕ) (bs : List ℕ) (f : List ℤ → List X) → IsOff p bs f → EndsAt (by_norm p f) (map (λ n. n + 1) bs)
ends-within p bs f off v k l far =
    let place : k < length bs = omega (arith, l, length-map bs (λ n. n + 1)) in
    let bound : get_or (map (λ n. n + 1) bs) k 0 ≡ get_or bs k 0 + 1 = get_or-map (λ n. n + 1) bs k 0 0 place in
    elim (cases_Bool (eqb (sum_of_squares v) p)) [
      | inl hit ↦
          ap (λ c. cond c (flat_map f (signings v)) []) hit
          ∙ vector-off p bs f off v k place (omega (arith, far, bound)) (omega (arith, entry-le v k, eqb-true (sum_of_squares v) p hit))
      | inr missed ↦ ap (λ c. cond c (flat_map f (signings v)) []) missed
    ]

-- what the displacements within the bounds make is what all make
pub within_bounds : {X : Type 0} (p n : ℕ) (bs : List ℕ) (f : List ℤ → List X) → length bs ≡ n → IsOff p bs f → flat_map f (displacements_within p bs) ≡ flat_map f (displacements p n)
unfolding displacements vectors_of_norm displacements_within vectors_within
within_bounds p n bs f long off = grind (arith, eqb, replicate, length-map, length-replicate, by_vectors, box-same, by_norm, ends-within, entry-le, get_or-replicate, nat_tests)

-- the events of a board are those by the displacements within the bounds
pub events_within : (b : BoardData) → flat_map (events_by b) (displacements_within (nat_abs b.piece) (bounds_of b)) ≡ events_of b
events_within b = within_bounds (nat_abs b.piece) (length b.sizes) (bounds_of b) (events_by b) (length-entry_bounds (nat_abs b.piece) b.sizes b.wrap) (events-off b)

-- and so are its moves
pub moves_within : (b : BoardData) → flat_map (moves_by (sides_of b.sizes b.wrap) b.piece (box b.sizes)) (displacements_within (nat_abs b.piece) (bounds_of b)) ≡ moves_of_board b
unfolding board_moves
moves_within b =
    within_bounds (nat_abs b.piece) (length b.sizes) (bounds_of b) (moves_by (sides_of b.sizes b.wrap) b.piece (box b.sizes)) (length-entry_bounds (nat_abs b.piece) b.sizes b.wrap) (moves-off b)
