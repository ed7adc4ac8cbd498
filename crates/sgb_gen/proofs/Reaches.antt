-- The lengths of a piece's moves, and where they lead, one after another.
use lib.Signed.{lt_z}
use Rattle.std.proofs.Common.{◌≡◌, ℕ, ◌+◌, ℤ, pos, negsuc, to_z, of_z, w64, SFits, Bool, true, cond, ltb, List, [], ◌∷◌, length, map, take, one-add, Option, Some, None, refl, ap, arith}
use Rattle.std.proofs.lemmas.Bool.{ltb-true}
use Rattle.std.specs.List.{filter_map, take_while, range_with_len}
use Rattle.std.specs.Option.{option_map, option_map_or}
use Rattle.std.proofs.lemmas.Int.{to_z-of_z}
use Rattle.sgb_vec.specs.Boxes.{box}
use Rattle.sgb_vec.specs.Lexicographic.{IsBelow}
use Rattle.sgb_vec.proofs.BoxPlaces.{length-box}
use Rattle.sgb_moves.specs.inner.Moves.{destination, longest_move}
use Rattle.sgb_moves.specs.VectorMoves.{Move}
use Rattle.sgb_gen.proofs.Destinations.{place-below}
use Rattle.sgb_moves.specs.Moves.{Side, sides_from_bit, sides_of, place, is_elsewhere, places_count, moves_from}

-- the sides have the sizes
pub sizes_of_sides : (k : ℕ) (sizes : List ℕ) (wrap : ℤ) → map (λ s. s.size) (sides_from_bit k sizes wrap) ≡ sizes
sizes_of_sides k [] wrap = refl
sizes_of_sides k (n ∷ sizes) wrap = ap (λ s. n ∷ s) (sizes_of_sides (k + 1) sizes wrap)

-- the code's test of a rider
abbrev pub rides : ℤ → Bool
rides piece = lt_z (to_z w64 (of_z w64 piece)) (pos 0)

pub longest-rider : (sizes : List ℕ) (wrap piece : ℤ) → SFits w64 piece → rides piece ≡ true → longest_move (sides_of sizes wrap) piece ≡ length (box sizes)
longest-rider sizes wrap piece f h = grind (arith, ltb, to_z-of_z, w64, ltb-true, sizes_of_sides, length-box)

-- the move from x to y at length l
abbrev pub move : List ℕ → ℕ → List ℕ → Move
move x l y = record { from = x; to = y; len = l }

-- the moves at these lengths, up to the first at which there is none
abbrev pub moves_until : List ℕ → (ℕ → Option (List ℕ)) → List ℕ → List Move
moves_until x leads [] = []
moves_until x leads (l ∷ ls) = option_map_or (λ y. move x l y ∷ moves_until x leads ls) (leads l) []

-- the elements in front that pass, of a list with one more in front
take_if : {X : Type 0} (b : Bool) (n : ℕ) (x : X) (xs : List X) → take (cond b (1 + n) 0) (x ∷ xs) ≡ cond b (x ∷ take n xs) []
take_if b n x xs = grind (arith, one-add)

-- a place that is not the start leads on, and any other ends the moves
elsewhere : (x : List ℕ) (l : ℕ) (o : Option (List ℕ)) (rest : List Move) (ls : List ℕ) (g : ℕ → Option Move) → g l ≡ option_map (move x l) o → filter_map g ls ≡ rest → filter_map g (cond (is_elsewhere x o) (l ∷ ls) []) ≡ option_map_or (λ y. move x l y ∷ rest) (cond (is_elsewhere x o) o None) []
elsewhere x l o rest ls g e h = grind (arith, cond, move)

-- a rider's moves are those before the first length at which its place does not exist or is its start
rider-moves : (x : List ℕ) (g : ℕ → Option (List ℕ)) (ls : List ℕ) → filter_map (λ l. option_map (move x l) (g l)) (take_while (λ l. is_elsewhere x (g l)) ls) ≡ moves_until x (λ l. cond (is_elsewhere x (g l)) (g l) None) ls
rider-moves x g [] = refl
rider-moves x g (l ∷ ls) = grind (arith, take_if, elsewhere, move, rider-moves x g ls)

-- the moves of a piece are those up to the first length at which it leads nowhere
pub moves_from-until : (sides : List Side) (piece : ℤ) (x : List ℕ) (t : List ℤ) → moves_from sides piece x t ≡ moves_until x (destination sides piece x t) (range_with_len 1 (longest_move sides piece))
moves_from-until sides (pos p) x t = grind (arith, move)
moves_from-until sides (negsuc p) x t = rider-moves x (place sides x t) (range_with_len 1 (places_count sides))

pub destination-place : (sides : List Side) (piece : ℤ) (x : List ℕ) (t : List ℤ) (l : ℕ) (y : List ℕ) → destination sides piece x t l ≡ Some y → place sides x t l ≡ Some y
destination-place sides piece x t l y e = grind (arith)

-- where a piece moves is a place of the board
pub destination-below : (sizes : List ℕ) (wrap piece : ℤ) (x : List ℕ) (t : List ℤ) (l : ℕ) (y : List ℕ) → IsBelow x sizes → destination (sides_of sizes wrap) piece x t l ≡ Some y → IsBelow y sizes
destination-below sizes wrap piece x t l y b e =
    let same = sizes_of_sides 0 sizes wrap in
    grind (arith, destination-place, place-below, same)
