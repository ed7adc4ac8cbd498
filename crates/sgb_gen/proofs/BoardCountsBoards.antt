-- The counts of a board, as the code finds them: by its sides, its lengths and its displacements.
use Rattle.std.proofs.Common.{rules, ◌≡◌, ℕ, zero, suc, ◌+◌, ◌-◌, ◌*◌, ◌^◌, ◌<◌, ◌≤◌, min, ℤ, pos, ◌*ℤ◌, nat_abs, to_z, of_z, w32, w64, SFits, Bool, true, false, ◌&&◌, cond, ltb, List, [], ◌∷◌, length, map, get_or, drop, Option, None, refl, sym, ap, ◌∙◌, arith}
use Rattle.std.specs.List.{All}
use Rattle.std.specs.Option.{is_some, SomeIff}
use Rattle.std.proofs.lemmas.Bool.{cases_Bool, cases_lt, ltb-true}
use Rattle.std.proofs.lemmas.Int.{to_z-of_z}
use Rattle.std.proofs.lemmas.List.{at_drop_more, drop_all, length-map}
use Rattle.std.proofs.lemmas.List.Elements.{All-cons, All-nil, Contains-get_or}
use Rattle.std.proofs.lemmas.Nat.{mul-le}
use Rattle.sgb_graph.specs.Events.{Event, all_records}
use Rattle.sgb_graph.specs.Made.{graph_described}
use Rattle.sgb_vec.specs.Boxes.{box, product_of}
use Rattle.sgb_vec.specs.Lexicographic.{IsBelow}
use Rattle.sgb_vec.proofs.Lists.{passing_first}
use Rattle.sgb_vec.specs.Limits.{most_vertices}
use Rattle.sgb_vec.proofs.BoxPlaces.{IsBelow-from_Contains, length-box}
use Rattle.sgb_vec.proofs.Products.{factors-pos}
use Rattle.sgb_gen.specs.Boards.{BoardData, board_vector_graph, moves_of_board}
use Rattle.sgb_gen.specs.VectorGraphs.{described_by, family_graph}
use Rattle.sgb_moves.specs.Moves.{Side, is_bit_set, sides_from_bit, sides_of, place}
use Rattle.sgb_gen.specs.inner.BoardCounts.{starts_on, is_home_on, starts_product, is_home, comes_home, starts_count}
use Rattle.sgb_gen.specs.inner.LocalBoards.{moves_by}
use Rattle.sgb_moves.specs.inner.Moves.{longest_move}
use Rattle.sgb_moves.proofs.AllVectors.{flat_map-same}
use Rattle.sgb_gen.proofs.BoardCountsLengths.{moves_left, starts-home, starts-going, left-first, left-none, onward-end}
use Rattle.sgb_gen.proofs.BoardCountsStarts.{passing, starts-product}
use Rattle.sgb_gen.proofs.Reaches.{sizes_of_sides, moves_until, moves_from-until, rides}

-- ---- the product over the sides

-- the greatest number of 64 bits
abbrev pub most_of_64 : ℕ
most_of_64 = 2 ^ 64 - 1

-- that of the sides from number k on
abbrev pub product_from : List ℕ → ℤ → List ℤ → ℕ → ℕ → ℕ
product_from sizes wrap t l k = starts_product (sides_from_bit k (drop k sizes) wrap) (drop k t) l

-- side number k
abbrev pub side_at : List ℕ → ℤ → ℕ → Side
side_at sizes wrap k = record { size = get_or sizes k 0; wraps = is_bit_set wrap k }

product-step : (sizes : List ℕ) (wrap : ℤ) (t : List ℤ) (l k : ℕ) → k < length sizes → k < length t → product_from sizes wrap t l k ≡ starts_on (side_at sizes wrap k) (pos l *ℤ get_or t k (pos 0)) * product_from sizes wrap t l (k + 1)
product-step sizes wrap t l k h i =
    at_drop_more (λ s. starts_product (sides_from_bit k s wrap) (drop k t) l) sizes k 0 h
    ∙ at_drop_more (λ u. starts_product (sides_from_bit k (get_or sizes k 0 ∷ drop (k + 1) sizes) wrap) u l) t k (pos 0) i

-- a product that is cut is the same where a factor has been cut before
cut_twice : (a b m : ℕ) → min (min a m * b) m ≡ min (a * b) m
cut_twice a zero m = omega arith
cut_twice a (suc b) m = grind (arith, cases_lt, min, mul-le)

-- the product so far and that of the sides that are left, cut, are the whole one, cut
abbrev pub IsProductSoFar : List ℕ → ℤ → List ℤ → ℕ → ℕ → ℕ → Type 0
IsProductSoFar sizes wrap t l k product =
    min (product * product_from sizes wrap t l k) most_of_64 ≡ min (starts_product (sides_of sizes wrap) t l) most_of_64

pub product-more : (sizes : List ℕ) (wrap : ℤ) (t : List ℤ) (l k product starts : ℕ) → k < length sizes → k < length t → starts ≡ starts_on (side_at sizes wrap k) (pos l *ℤ get_or t k (pos 0)) → IsProductSoFar sizes wrap t l k product → IsProductSoFar sizes wrap t l (k + 1) (min (product * starts) most_of_64)
product-more sizes wrap t l k product starts h i e so = grind (arith, cut_twice, product-step)

pub product-all : (sizes : List ℕ) (wrap : ℤ) (t : List ℤ) (l k product : ℕ) → length sizes ≤ k → product ≤ most_of_64 → IsProductSoFar sizes wrap t l k product → product ≡ min (starts_product (sides_of sizes wrap) t l) most_of_64
product-all sizes wrap t l k product h fits so = grind (arith, drop_all)

-- ---- whether it leads home

abbrev pub home_from : List ℕ → ℤ → List ℤ → ℕ → ℕ → Bool
home_from sizes wrap t l k = is_home (sides_from_bit k (drop k sizes) wrap) (drop k t) l

pub home-step : (sizes : List ℕ) (wrap : ℤ) (t : List ℤ) (l k : ℕ) → k < length sizes → k < length t → home_from sizes wrap t l k ≡ (is_home_on (side_at sizes wrap k) (pos l *ℤ get_or t k (pos 0)) && home_from sizes wrap t l (k + 1))
home-step sizes wrap t l k h i =
    cc (at_drop_more (λ s. is_home (sides_from_bit k s wrap) (drop k t) l) sizes k 0 h, at_drop_more (λ u. is_home (sides_from_bit k (get_or sizes k 0 ∷ drop (k + 1) sizes) wrap) u l) t k (pos 0) i)

-- ---- the places of a board

abbrev AreAllBelow : List ℕ → ℤ → Type 0
AreAllBelow sizes wrap = All (λ x. IsBelow x (map (λ s. s.size) (sides_of sizes wrap))) (box sizes)

all_below : (sizes : List ℕ) (wrap : ℤ) → AreAllBelow sizes wrap
all_below sizes wrap j w l = search (rules, sizes_of_sides, IsBelow-from_Contains, Contains-get_or)

pub length_sides : (sizes : List ℕ) (wrap : ℤ) (k : ℕ) → length (sides_from_bit k sizes wrap) ≡ length sizes
length_sides [] wrap k = refl
length_sides (n ∷ sizes) wrap k = ap suc (length_sides sizes wrap (k + 1))

places_passing : (sizes : List ℕ) (wrap : ℤ) (t : List ℤ) (l : ℕ) → length t ≡ length sizes → passing (λ x. is_some (place (sides_of sizes wrap) x t l)) (box sizes) ≡ starts_product (sides_of sizes wrap) t l
places_passing sizes wrap t l e =
    let sides = sides_of sizes wrap in
    cc (sizes_of_sides 0 sizes wrap, starts-product sides t l (e ∙ sym (length_sides sizes wrap 0)))

-- where no side stops it, the product counts the places from which a piece moves
pub counts-away : (sizes : List ℕ) (wrap piece : ℤ) (t : List ℤ) (l : ℕ) → length t ≡ length sizes → comes_home (sides_of sizes wrap) piece t l ≡ false → starts_product (sides_of sizes wrap) t l ≡ starts_count (sides_of sizes wrap) piece (box sizes) t l
counts-away sizes wrap piece t l e away =
    sym (starts-going (sides_of sizes wrap) piece (box sizes) t l (all_below sizes wrap) away ∙ places_passing sizes wrap t l e)

pub counts-home : (sizes : List ℕ) (wrap piece : ℤ) (t : List ℤ) (l : ℕ) → comes_home (sides_of sizes wrap) piece t l ≡ true → 0 ≡ starts_count (sides_of sizes wrap) piece (box sizes) t l
counts-home sizes wrap piece t l home = sym (starts-home (sides_of sizes wrap) piece (box sizes) t l (all_below sizes wrap) home)

passing-le : {X : Type 0} (p : X → Bool) (xs : List X) → passing p xs ≤ length xs
passing-le p [] = omega arith
passing-le p (x ∷ xs) = grind (arith, passing_first, cond, passing-le p xs)

-- it is at most the number of places
pub product-small : (sizes : List ℕ) (wrap : ℤ) (t : List ℤ) (l : ℕ) → length t ≡ length sizes → starts_product (sides_of sizes wrap) t l ≤ product_of sizes
product-small sizes wrap t l e =
    omega (arith, places_passing sizes wrap t l e, passing-le (λ x. is_some (place (sides_of sizes wrap) x t l)) (box sizes), length-box sizes)

pub sizes-pos : (k : ℕ) (sizes : List ℕ) (wrap : ℤ) (t : List ℤ) (l : ℕ) → 0 < starts_product (sides_from_bit k sizes wrap) t l → All (λ n. 0 < n) sizes
sizes-pos k [] wrap t l h = All-nil (λ n. 0 < n)
sizes-pos k (n ∷ sizes) wrap [] l h = absurd (omega arith)
sizes-pos k (n ∷ sizes) wrap (u ∷ t) l h = grind (arith, factors-pos, All-cons, nat_abs, sizes-pos (k + 1) sizes wrap t l (factors-pos (starts_on (record { size = n; wraps = is_bit_set wrap k }) (pos l *ℤ u)) (starts_product (sides_from_bit (k + 1) sizes wrap) t l) h).1)

-- ---- the moves by a displacement, length by length

-- those of more than k lengths
abbrev pub moves_beyond : List ℕ → ℤ → ℤ → List ℤ → ℕ → ℕ
moves_beyond sizes wrap piece t k =
    moves_left (sides_of sizes wrap) piece (box sizes) t (k + 1) (longest_move (sides_of sizes wrap) piece - k)

pub beyond-all : (sizes : List ℕ) (wrap piece : ℤ) (t : List ℤ) → moves_beyond sizes wrap piece t 0 ≡ length (moves_by (sides_of sizes wrap) piece (box sizes) t)
beyond-all sizes wrap piece t = grind (arith, flat_map-same, moves_until, moves_from-until)

pub beyond-first : (sizes : List ℕ) (wrap piece : ℤ) (t : List ℤ) (k : ℕ) → k < longest_move (sides_of sizes wrap) piece → 0 < starts_count (sides_of sizes wrap) piece (box sizes) t (k + 1) → moves_beyond sizes wrap piece t k ≡ starts_count (sides_of sizes wrap) piece (box sizes) t (k + 1) + moves_beyond sizes wrap piece t (k + 1)
beyond-first sizes wrap piece t k h some =
    let sides = sides_of sizes wrap in
    let count : longest_move sides piece - k ≡ suc (longest_move sides piece - (k + 1)) = omega arith in
    cc (count, left-first sides piece (box sizes) t (k + 1) (longest_move sides piece - (k + 1)) (all_below sizes wrap) some)

pub beyond-none : (sizes : List ℕ) (wrap piece : ℤ) (t : List ℤ) (k : ℕ) → starts_count (sides_of sizes wrap) piece (box sizes) t (k + 1) ≡ 0 → moves_beyond sizes wrap piece t k ≡ 0
beyond-none sizes wrap piece t k e =
    left-none (sides_of sizes wrap) piece (box sizes) t (k + 1) (longest_move (sides_of sizes wrap) piece - k) e

pub beyond-end : (sizes : List ℕ) (wrap piece : ℤ) (t : List ℤ) (k : ℕ) → longest_move (sides_of sizes wrap) piece ≤ k → moves_beyond sizes wrap piece t k ≡ 0
beyond-end sizes wrap piece t k h = grind (arith, moves_left, onward-end)

-- ---- the arcs

-- an event is one arc or two
pub arcs-directed : (events : List Event) → length (all_records true events) ≡ length events
arcs-directed [] = refl
arcs-directed (e ∷ events) = ap suc (arcs-directed events)

pub arcs-undirected : (events : List Event) → length (all_records false events) ≡ length events * 2
arcs-undirected [] = refl
arcs-undirected (e ∷ events) = omega (arith, arcs-undirected events)

-- ---- what the code reads of a side

pub starts_read : (sizes : List ℕ) (wrap : ℤ) (t : List ℤ) (l k : ℕ) (wraps : Bool) (u : ℤ) (starts : ℕ) → SFits w64 u → SFits w32 (get_or t k (pos 0)) → wraps ≡ is_bit_set wrap k → u ≡ pos l *ℤ to_z w32 (of_z w32 (get_or t k (pos 0))) → starts ≡ starts_on (record { size = get_or sizes k 0; wraps = wraps }) (to_z w64 (of_z w64 u)) → starts ≡ starts_on (side_at sizes wrap k) (pos l *ℤ get_or t k (pos 0))
starts_read sizes wrap t l k wraps u starts f g e h is = grind (arith, to_z-of_z, w64, w32)

-- as many as places are below the greatest number of 64 bits
pub product-exact : (sizes : List ℕ) (wrap : ℤ) (t : List ℤ) (l starts : ℕ) → length t ≡ length sizes → product_of sizes ≤ most_vertices → starts ≡ min (starts_product (sides_of sizes wrap) t l) most_of_64 → starts ≡ starts_product (sides_of sizes wrap) t l
product-exact sizes wrap t l starts e few is = grind (arith, product-small)

-- the test of a rider
pub rider-home : (sides : List Side) (piece : ℤ) (t : List ℤ) (l : ℕ) → SFits w64 piece → rides piece ≡ true → is_home sides t l ≡ comes_home sides piece t l
rider-home sides piece t l f h = grind (arith, ltb, to_z-of_z, w64, ltb-true)

-- what does not fit in 128 bits
pub great : (o : Option ℕ) (n : ℕ) → o ≡ None → SomeIff o (n < 2 ^ 128) n → 2 ^ 128 ≤ n
great o n e h = grind (arith, cases_lt)

-- ---- the arcs of the graph

pub arcs-of-directed : (b : BoardData) → b.directed ≡ true → (graph_described (described_by (board_vector_graph b))).m ≡ length (moves_of_board b)
unfolding family_graph
arcs-of-directed b e = grind (arith, arcs-directed, length-map)

pub arcs-of-undirected : (b : BoardData) → b.directed ≡ false → (graph_described (described_by (board_vector_graph b))).m ≡ length (moves_of_board b) * 2
unfolding family_graph
arcs-of-undirected b e = grind (arith, arcs-undirected, length-map)

pub great-moves : (b : BoardData) → 2 ^ 128 ≤ length (moves_of_board b) → 2 ^ 128 ≤ (graph_described (described_by (board_vector_graph b))).m
great-moves b h = grind (arith, cases_Bool, arcs-of-directed, arcs-of-undirected)

-- there are two for a move at most
pub arcs-few : (b : BoardData) → (graph_described (described_by (board_vector_graph b))).m ≤ length (moves_of_board b) * 2
arcs-few b = grind (arith, cases_Bool, arcs-of-directed, arcs-of-undirected)
