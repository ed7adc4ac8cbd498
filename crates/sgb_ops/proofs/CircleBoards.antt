-- The circle that is the rim of a wheel, as the graph of a board: its vertices, names and events.
use Rattle.sgb_vec.proofs.Common.{◌≡◌, ◌∙◌, ◌<◌, ◌≤◌, ◌+◌, ℕ, zero, suc, pos, negsuc, ℤ, ◌≤ℤ◌, nat_abs, false, List, [], ◌∷◌, map, refl, sym, ap, subst, arith, Result, Ok, Err, IfOk, IsOkUnless, Some, if◌then◌else◌, ltb, nat_lt, range_with_len, slice_get, flat_map, cases_lt, le-ltb, lt-ltb, mod-eq_of_lt, length-map, append-nil}
use Rattle.std.proofs.Math.Nat.{mod_self}
use Rattle.std.specs.Prelude.{◌+ℤ◌, ◌*ℤ◌, codes}
use Rattle.std.specs.Int.{int_rem_euclid}
use Rattle.std.proofs.lemmas.Int.{ints}
use Rattle.sgb_vec.specs.Boxes.{box}
use Rattle.sgb_vec.specs.Names.{name_of_vector}
use Rattle.sgb_vec.proofs.BoxPlaces.{length-box, slice_get-place_of}
use Rattle.sgb_vec.proofs.FamilyLaws.{box_vectors_rise}
use Rattle.sgb_vec.specs.Sizes.{repeated}
use Rattle.sgb_graph.specs.Events.{Event, HasArcsOf}
use Rattle.sgb_graph.proofs.Described.{described_is, described_only}
use Rattle.sgb_graph.proofs.Lists.{map-map}
use Rattle.sgb_graph.specs.Descriptions.{IsAnswerOf}
use Rattle.sgb_graph.specs.Graphs.{GraphData}
use Rattle.sgb_vec.specs.declared.panics.Panic.{Panic}
use Rattle.sgb_vec.specs.declared.panics.Panic.TheVariants.{NoRoom}
use Rattle.sgb_graph.specs.Vertices.{names_of, order_of}
use Rattle.sgb_gen.specs.Boards.{board, board_vector_graph, moves_of_board}
use Rattle.sgb_gen.specs.Generators.{made}
use Rattle.sgb_moves.specs.Displacements.{displacements, vectors_of_norm}
use Rattle.sgb_moves.specs.Moves.{board_moves, moves_from, sides_of}
use Rattle.sgb_moves.specs.VectorMoves.{Move}
use Rattle.sgb_gen.specs.VectorGraphs.{described_by, event_among, family_graph, vertex_among}
use Rattle.sgb_gen.proofs.ListedGraphs.{of_board}
use Rattle.sgb_gen.proofs.LocalChains.{tips_within}
use Rattle.sgb_gen.proofs.RisingVectors.{vertex_in_rising}
use Rattle.sgb_gen.proofs.VectorVertices.{events_within, named_by_vectors, vertices_are_members}
use Rattle.sgb_ops.specs.Compounds.{joined_name}
use Rattle.sgb_ops.specs.inner.Boards.{rim_of_wheel}
use Rattle.sgb_ops.specs.inner.Circles.{circle, circle_board, name_around, names_joined}
use Rattle.sgb_ops.specs.inner.Sources.{HasTips}

-- the parameters of the rim are accepted
pub rim_is_circle : (n : ℕ) → 3 ≤ n → n ≤ 1_000_000_000 → board (rim_of_wheel (pos n) false) ≡ Ok (described_by (board_vector_graph (circle_board n)))
unfolding repeated
rim_is_circle zero some most = absurd (omega (arith, some))
rim_is_circle (suc n) some most = grind (arith, le-ltb, ltb)

-- of a rim of so many vertices the circle is made
pub made_around : (n : ℤ) → pos 3 ≤ℤ n → n ≤ℤ pos 1_000_000_000 → made (board (rim_of_wheel n false)) ≡ Ok (circle (nat_abs n))
made_around (pos n) some most = ap made (rim_is_circle n (omega (arith, ints, some)) (omega (arith, ints, most)))
made_around (negsuc n) some most = absurd (omega (arith, ints, some))

-- where it is built, it is the circle
pub circle_answer : (n : ℕ) (r : Result GraphData Panic) → 3 ≤ n → n ≤ 1_000_000_000 → IsAnswerOf (board (rim_of_wheel (pos n) false)) r
    → IfOk r (λ g. g ≡ circle n) × IsOkUnless r NoRoom
circle_answer n (Ok g) some most answer =
    let is = subst (λ b. IsAnswerOf b (Ok g)) (rim_is_circle n some most) answer in
    (described_only (described_by (board_vector_graph (circle_board n))) g is, tt)
circle_answer n (Err e) some most answer = (tt, subst (λ b. IsAnswerOf b (Err e)) (rim_is_circle n some most) answer)

-- its vectors
vectors_of : (xs : List ℕ) → flat_map (λ x. map (λ v. x ∷ v) ([] ∷ [])) xs ≡ map (λ x. x ∷ []) xs
vectors_of [] = refl
vectors_of (x ∷ xs) = ap (λ vs. (x ∷ []) ∷ vs) (vectors_of xs)

pub vectors_around : (n : ℕ) → box (n ∷ []) ≡ map (λ x. x ∷ []) (range_with_len 0 n)
unfolding box
vectors_around n = vectors_of (range_with_len 0 n)

-- the step from x
abbrev step_from : ℕ → ℕ → Move
step_from n x = record { from = x ∷ []; to = nat_abs (int_rem_euclid (pos x +ℤ pos 1 *ℤ pos 1) (pos n)) ∷ []; len = 1 }

steps_of : (n : ℕ) (xs : List ℕ) → flat_map (λ x. moves_from (sides_of (n ∷ []) (pos 1)) (pos 1) x (pos 1 ∷ [])) (map (λ x. x ∷ []) xs) ≡ map (step_from n) xs
steps_of n [] = refl
steps_of n (x ∷ xs) = ap (λ ms. step_from n x ∷ ms) (steps_of n xs)

one_displacement : displacements 1 1 ≡ (pos 1 ∷ []) ∷ []
unfolding displacements vectors_of_norm box
one_displacement = refl

moves_around : (n : ℕ) → moves_of_board (circle_board n) ≡ map (step_from n) (range_with_len 0 n)
unfolding board_moves
moves_around n = rw (one_displacement, vectors_around n) (append-nil _ ∙ steps_of n (range_with_len 0 n))

-- the vertex of a vector
vertex_of : (n x : ℕ) → x < n → vertex_among (box (n ∷ [])) (x ∷ []) ≡ x
vertex_of n x below =
    let at : slice_get (box (n ∷ [])) x ≡ Some (x ∷ []) = grind (arith, slice_get-place_of (n ∷ []) (x ∷ []) (below, tt)) in
    vertex_in_rising (box (n ∷ [])) x (x ∷ []) (box_vectors_rise (n ∷ [])) at

-- the edge from vertex x
abbrev pub around : ℕ → ℕ → Event
around n x = record { from = x; to = if nat_lt (x + 1) n then x + 1 else 0; len = pos 1 }

-- where it leads
next_around : (n x : ℕ) → x < n → nat_abs (int_rem_euclid (pos x +ℤ pos 1 *ℤ pos 1) (pos n)) ≡ (if nat_lt (x + 1) n then x + 1 else 0)
next_around n x below = grind (arith, mod-eq_of_lt, mod_self, cases_lt, lt-ltb, le-ltb)

event_of_step : (n x : ℕ) → x < n → event_among (box (n ∷ [])) (step_from n x) ≡ around n x
event_of_step n x below = grind (arith, vertex_of n x below, next_around n x below, vertex_of n (if nat_lt (x + 1) n then x + 1 else 0), cases_lt, lt-ltb, le-ltb)

events_of_steps : (n a k : ℕ) → a + k ≤ n → map (event_among (box (n ∷ []))) (map (step_from n) (range_with_len a k)) ≡ map (around n) (range_with_len a k)
events_of_steps n a zero few = refl
events_of_steps n a (suc k) few = grind (arith, event_of_step n a (omega (arith, few)), events_of_steps n (a + 1) k (omega (arith, few)))

-- its events are the edges from its vertices in order
pub events_around : (n : ℕ) → map (event_among (box (n ∷ []))) (moves_of_board (circle_board n)) ≡ map (around n) (range_with_len 0 n)
events_around n = ap (map (event_among (box (n ∷ [])))) (moves_around n) ∙ events_of_steps n 0 n (omega arith)

-- it has n vertices
pub order_around : (n : ℕ) → order_of (circle n) ≡ n
order_around n = vertices_are_members (board_vector_graph (circle_board n)) (box (n ∷ [])) refl ∙ (length-box (n ∷ []) ∙ omega arith)

-- whose names are their numbers
pub names_around : (n : ℕ) → names_of (circle n) ≡ map (λ x. name_of_vector (x ∷ [])) (range_with_len 0 n)
names_around n = named_by_vectors (board_vector_graph (circle_board n)) ∙ (ap (map name_of_vector) (vectors_around n) ∙ map-map name_of_vector (λ x. x ∷ []) (range_with_len 0 n))

-- each joined with another
pub joined_around : (text : List ℕ) (n : ℕ) → map (name_around text) (range_with_len 0 n) ≡ names_joined text (circle n)
joined_around text n =
    sym (ap (map (λ b. joined_name text (codes ":") b)) (names_around n) ∙ map-map (λ b. joined_name text (codes ":") b) (λ x. name_of_vector (x ∷ [])) (range_with_len 0 n))

-- all arcs lead to these
pub tips_around : (n : ℕ) → HasTips (circle n)
tips_around n v below =
    let g = board_vector_graph (circle_board n) in
    let own = of_board (circle_board n) in
    let size = vertices_are_members g g.vectors refl in
    rw size (tips_within g own.rising own.ends v (omega (arith, below, size)))

-- and its events are its arcs
pub has_edges_around : (n : ℕ) → HasArcsOf false (map (around n) (range_with_len 0 n)) (circle n)
unfolding family_graph
has_edges_around n =
    let g = board_vector_graph (circle_board n) in
    let own = of_board (circle_board n) in
    let names = length-map g.vectors name_of_vector in
    let is = described_is (described_by g) (grind (arith, events_within)) (grind (arith, length-map)) in
    subst (λ es. HasArcsOf false es (circle n)) (events_around n) is.arcs
