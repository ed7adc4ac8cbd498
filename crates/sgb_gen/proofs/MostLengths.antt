-- How many lengths a piece moves at most by a displacement, from whichever vector.
use Rattle.std.proofs.Common.{◌≡◌, ℕ, zero, suc, ◌+◌, ◌*◌, ◌<◌, ◌≤◌, ℤ, pos, negsuc, ◌+ℤ◌, ◌*ℤ◌, nat_abs, Bool, true, false, cond, ltb, List, [], ◌∷◌, length, get_or, Option, Some, None, sym, ap, subst, ◌∙◌, arith, true≢false}
use Rattle.std.specs.List.{range_with_len}
use Rattle.std.specs.Option.{option_map_or}
use Rattle.std.proofs.lemmas.Bool.{cond-false, le-ltb}
use Rattle.std.proofs.lemmas.Int.{ints}
use Rattle.std.proofs.lemmas.List.{length-map}
use Rattle.std.proofs.lemmas.List.Elements.{AllZip-get_or, length_all_zip}
use Rattle.std.proofs.lemmas.List.FromFn.{length-map-range_with_len, length-range_with_len}
use Rattle.sgb_vec.specs.Boxes.{box}
use Rattle.sgb_vec.specs.Lexicographic.{IsBelow}
use Rattle.sgb_vec.proofs.BoxPlaces.{Contains-from_IsBelow}
use Rattle.sgb_gen.specs.Boards.{BoardData}
use Rattle.sgb_moves.specs.MovedCoordinates.{parts_of}
use Rattle.sgb_moves.specs.Moves.{coordinate_on, in_front, is_bit_set, is_elsewhere, moves_from, place, sides_from_bit, sides_of, within_size}
use Rattle.sgb_gen.specs.Spans.{arc_along}
use Rattle.sgb_gen.specs.inner.Spans.{arcs_along}
use Rattle.sgb_gen.specs.inner.BoardCounts.{stops_at, stops_on}
use Rattle.sgb_gen.specs.inner.LocalBoards.{move_arc}
use Rattle.sgb_moves.specs.inner.Moves.{destination, longest_move}
use Rattle.sgb_gen.specs.inner.StraightLists.{arcs_from}
use Rattle.sgb_gen.proofs.BoundedMoves.{in_front-none}
use Rattle.sgb_gen.proofs.Reaches.{move, moves_from-until, moves_until}

-- ---- up to the first length at which the piece leads nowhere

-- no more moves than lengths
until_few : (x : List ℕ) (leads : ℕ → Option (List ℕ)) (ls : List ℕ) → length (moves_until x leads ls) ≤ length ls
until_few x leads [] = omega arith
until_few x leads (l ∷ ls) = next (leads l) (until_few x leads ls)
  where
    next : (o : Option (List ℕ)) → length (moves_until x leads ls) ≤ length ls → length (option_map_or (λ y. move x l y ∷ moves_until x leads ls) o []) ≤ suc (length ls)
    next None few = omega arith
    next (Some y) few = omega (arith, few)

-- and none from that length on
until_out : (x : List ℕ) (leads : ℕ → Option (List ℕ)) (from n k : ℕ) → leads (from + k) ≡ None → length (moves_until x leads (range_with_len from n)) ≤ k
until_out x leads from zero k out = omega arith
until_out x leads from (suc n) zero out =
    let here : leads from ≡ None = ap leads {x = from} {y = from + 0} (omega arith) ∙ out in
    let none : length (moves_until x leads (range_with_len from (suc n))) ≡ 0 = ap (λ o. length (option_map_or (λ y. move x from y ∷ moves_until x leads (range_with_len (from + 1) n)) o [])) here in
    omega (arith, none)
until_out x leads from (suc n) (suc k) out =
    let further : leads (from + 1 + k) ≡ None = ap leads {x = from + 1 + k} {y = from + suc k} (omega arith) ∙ out in
    next (leads from) (until_out x leads (from + 1) n k further)
  where
    next : (o : Option (List ℕ)) → length (moves_until x leads (range_with_len (from + 1) n)) ≤ k → length (option_map_or (λ y. move x from y ∷ moves_until x leads (range_with_len (from + 1) n)) o []) ≤ suc k
    next None few = omega arith
    next (Some y) few = omega (arith, few)

module _ (b : BoardData) (x : List ℕ) (t : List ℤ) where
  arcs_until : length (arcs_from b x t) ≡ length (moves_until x (destination (sides_of b.sizes b.wrap) b.piece x t) (range_with_len 1 (longest_move (sides_of b.sizes b.wrap) b.piece)))
  arcs_until = length-map (moves_from (sides_of b.sizes b.wrap) b.piece x t) move_arc ∙ ap length (moves_from-until (sides_of b.sizes b.wrap) b.piece x t)

  -- there are no more than the longest move is long
  pub within_longest : length (arcs_from b x t) ≤ longest_move (sides_of b.sizes b.wrap) b.piece
  within_longest =
      let n = longest_move (sides_of b.sizes b.wrap) b.piece in
      omega (arith, arcs_until, until_few x (destination (sides_of b.sizes b.wrap) b.piece x t) (range_with_len 1 n), length-range_with_len 1 n)

  -- nor than come before one that leads nowhere
  pub within_nowhere : (k : ℕ) → destination (sides_of b.sizes b.wrap) b.piece x t (k + 1) ≡ None → length (arcs_from b x t) ≤ k
  within_nowhere k none =
      let same : 1 + k ≡ k + 1 = omega arith in
      omega (arith, arcs_until, until_out x (destination (sides_of b.sizes b.wrap) b.piece x t) 1 (longest_move (sides_of b.sizes b.wrap) b.piece) k (subst (λ l. destination (sides_of b.sizes b.wrap) b.piece x t l ≡ None) (sym same) none))

  -- nor than come before one that leads to no place
  pub within_place : (k : ℕ) → place (sides_of b.sizes b.wrap) x t (k + 1) ≡ None → length (arcs_from b x t) ≤ k
  within_place k out = within_nowhere k (nowhere b.piece)
    where
      nowhere : (piece : ℤ) → destination (sides_of b.sizes b.wrap) piece x t (k + 1) ≡ None
      nowhere (pos p) = out
      nowhere (negsuc p) = ap (λ o. cond (is_elsewhere x o) o None) out

  -- so many where there is one for each length up to it
  pub as_many : (n : ℕ) → arcs_from b x t ≡ arcs_along b.sizes b.wrap x (parts_of t) n → length (arcs_from b x t) ≡ n
  as_many n is = ap length is ∙ length-map-range_with_len (arc_along b.sizes b.wrap x (parts_of t)) 1 n

-- ---- a side that stops the piece

out_by : (n a : ℕ) (u : ℤ) → a < n → n ≤ nat_abs u → within_size n (pos a +ℤ u) ≡ None
out_by n a u below far = grind (arith, ints, negsuc, cond-false, ltb, le-ltb)

steps_abs : (w : Bool) (l : ℕ) (u : ℤ) → stops_on w u ≡ true → nat_abs (pos l *ℤ u) ≡ l * nat_abs u
steps_abs w l u stop = grind (arith, true≢false, ints)

pub out_on : (w : Bool) (n a l : ℕ) (u : ℤ) → a < n → stops_on w u ≡ true → n ≤ l * nat_abs u → coordinate_on (record { size = n; wraps = w }) (pos a +ℤ pos l *ℤ u) ≡ None
out_on true n a l u below stop far = absurd (true≢false (sym stop))
out_on false n a l u below stop far = out_by n a (pos l *ℤ u) below (omega (arith, far, steps_abs false l u stop))

pub front_out : (o : Option ℕ) (p : Option (List ℕ)) → p ≡ None → in_front o p ≡ None
front_out o p none = ap (in_front o) none ∙ in_front-none o

none_front : (p : Option (List ℕ)) → in_front None p ≡ None
none_front p = grind (arith)

pub first_out : (o : Option ℕ) (p : Option (List ℕ)) → o ≡ None → in_front o p ≡ None
first_out o p none = ap (λ q. in_front q p) none ∙ none_front p

out_place : (k : ℕ) (sizes : List ℕ) (wrap : ℤ) (x : List ℕ) (t : List ℤ) (l i : ℕ) → IsBelow x sizes → i < length t → length t ≡ length sizes → stops_on (is_bit_set wrap (k + i)) (get_or t i (pos 0)) ≡ true
    → get_or sizes i 0 ≤ l * nat_abs (get_or t i (pos 0)) → place (sides_from_bit k sizes wrap) x t l ≡ None
out_place k [] wrap x t l i below within long stop far = absurd (omega (arith, within, long))
out_place k (n ∷ sizes) wrap [] t l i below within long stop far = absurd below
out_place k (n ∷ sizes) wrap (a ∷ x) [] l i below within long stop far = absurd (omega (arith, long))
out_place k (n ∷ sizes) wrap (a ∷ x) (u ∷ t) l zero below within long stop far =
    let here : stops_on (is_bit_set wrap k) u ≡ true = subst (λ j. stops_on (is_bit_set wrap j) u ≡ true) {x = k + 0} {y = k} (omega arith) stop in
    first_out _ _ (out_on (is_bit_set wrap k) n a l u below.0 here far)
out_place k (n ∷ sizes) wrap (a ∷ x) (u ∷ t) l (suc i) below within long stop far =
    front_out _ _ (out_place (k + 1) sizes wrap x t l i below.1 (omega (arith, within)) (omega (arith, long))
    (subst (λ j. stops_on (is_bit_set wrap j) (get_or t i (pos 0)) ≡ true) {x = k + suc i} {y = k + 1 + i} (omega arith) stop) far)

-- no more lengths than stay on it
pub within_side : (b : BoardData) (x : List ℕ) (t : List ℤ) (i k : ℕ) → IsBelow x b.sizes → i < length t → length t ≡ length b.sizes → stops_at b.wrap t i ≡ true
    → get_or b.sizes i 0 ≤ (k + 1) * nat_abs (get_or t i (pos 0)) → length (arcs_from b x t) ≤ k
within_side b x t i k below within long stop far =
    within_place b x t k
    (out_place 0 b.sizes b.wrap x t (k + 1) i below within long (subst (λ j. stops_on (is_bit_set b.wrap j) (get_or t i (pos 0)) ≡ true) {x = i} {y = 0 + i} (omega arith) stop) far)

-- a board with a vector has one at least
pub has_some : (b : BoardData) (x : List ℕ) → IsBelow x b.sizes → 0 < length (box b.sizes)
has_some b x below = omega (arith, (Contains-from_IsBelow b.sizes x below).1)

-- and a side on which it lies some coordinates
pub side_some : (b : BoardData) (x : List ℕ) (k : ℕ) → IsBelow x b.sizes → k < length b.sizes → 0 < get_or b.sizes k 0
side_some b x k below within =
    omega (arith, AllZip-get_or (λ a s. a < s) x b.sizes k 0 0 below (omega (arith, within, length_all_zip (λ a s. a < s) x b.sizes below)))
