-- The list of a vertex from which no side is near, by leaps: sides that wrap around make no difference.
use Rattle.std.proofs.Common.{◌≡◌, ◌≢◌, ℕ, suc, ◌+◌, ◌++◌, ◌<◌, ◌≤◌, ◌&&◌, ℤ, pos, negsuc, neg_ℤ, ◌+ℤ◌, ◌*ℤ◌, nat_abs, Bool, true, false, cond, List, [], ◌∷◌, length, get_or, map, reverse, Some, refl, sym, ap, ap₂, subst, ◌∙◌, arith, true≢false}
use Rattle.std.specs.Prelude.{◌||◌}
use Rattle.std.specs.Bool.{OnTrue}
use Rattle.std.specs.List.{All, Contains}
use Rattle.std.specs.Option.{option_map}
use Rattle.std.proofs.lemmas.Int.{ints}
use Rattle.std.proofs.lemmas.List.{length-map}
use Rattle.sgb_vec.specs.Boxes.{box}
use Rattle.sgb_vec.specs.Lexicographic.{IsBefore, IsBelow}
use Rattle.sgb_vec.proofs.BoxPlaces.{Contains-from_IsBelow}
use Rattle.sgb_vec.proofs.FamilyLaws.{box_vectors_rise}
use Rattle.sgb_gen.specs.Boards.{BoardData}
use Rattle.sgb_moves.specs.MovedCoordinates.{parts_of, parts_put}
use Rattle.sgb_moves.specs.Moves.{coordinate_on, in_front, is_bit_set, opposite, place, sides_from_bit, sides_of}
use Rattle.sgb_gen.specs.VectorGraphs.{vertex_among}
use Rattle.sgb_gen.specs.inner.LocalBoards.{arcs_onward, edge_arcs, moves_by}
use Rattle.sgb_moves.specs.inner.MovedCoordinates.{IsInside, parts_stay}
use Rattle.sgb_moves.specs.inner.Moves.{leads_onward, longest_move}
use Rattle.sgb_gen.specs.inner.StraightLists.{AreOnward, IsLeaper, IsRun, arcs_back, arcs_from}
use Rattle.sgb_gen.proofs.BoardWalks.{leads, longest}
use Rattle.sgb_gen.proofs.Destinations.{place-below}
use Rattle.sgb_moves.proofs.NearPlaces.{stay_near}
use Rattle.sgb_gen.proofs.InsideVertices.{opposite_within, stay_inside}
use Rattle.sgb_gen.proofs.Leaps.{comes_from, leaps_earlier, own_vertex}
use Rattle.sgb_moves.proofs.MovedCoordinates.{parts_within}
use Rattle.sgb_gen.proofs.MovesInOrder.{vertices_in_order}
use Rattle.sgb_gen.proofs.OnwardMoves.{back_earlier, onward_elsewhere}
use Rattle.sgb_gen.proofs.Reaches.{sizes_of_sides}
use Rattle.sgb_gen.proofs.RunsOfLists.{directed_run, edges_run, onward_run}
use Rattle.sgb_gen.proofs.StraightMoves.{back_away, leads_on, leaps_there, onward_away, straight_arcs}
use Rattle.sgb_moves.proofs.TurnedMoves.{side_itself}
use Rattle.sgb_gen.proofs.Vertices.{other_is}

-- ---- one step on a side

-- a coordinate that is far enough from both ends of its side leads to the same one, whether it wraps around or not
side_alike : (v w : Bool) (n x d : ℕ) (a : ℤ) → nat_abs a ≤ d → d ≤ x → x + d < n
    → coordinate_on (record { size = n; wraps = v }) (pos x +ℤ pos 1 *ℤ a) ≡ coordinate_on (record { size = n; wraps = w }) (pos x +ℤ pos 1 *ℤ a)
side_alike v w n x d a small behind ahead = grind (arith, ints, side_itself, negsuc)

-- so one step leads to the same place
pub place_alike : (v w : ℤ) (d k : ℕ) (sizes x : List ℕ) (t : List ℤ) → IsInside d sizes x → All (λ e. nat_abs e ≤ d) t
    → place (sides_from_bit k sizes v) x t 1 ≡ place (sides_from_bit k sizes w) x t 1
place_alike v w d k (n ∷ sizes) (a ∷ x) (u ∷ t) inside small =
    let here = inside 0 (omega arith) in
    ap₂ in_front (side_alike (is_bit_set v k) (is_bit_set w k) n a d u (small 0 (pos 0) (omega arith)) here.0 here.1)
    (place_alike v w d (k + 1) sizes x t (λ j h. inside (suc j) (omega (arith, h))) (λ j e h. small (suc j) e (omega (arith, h))))
place_alike v w d k _ _ _ inside small = refl

-- ---- the arcs by one displacement

-- an edge to another vector makes one arc
one_arc : (x y : List ℕ) → y ≢ x → edge_arcs x 1 (Some y) ≡ record { tip = y; len = pos 1 } ∷ []
one_arc x y other = ap (λ d. record { tip = y; len = pos 1 } ∷ cond d (record { tip = x; len = pos 1 } ∷ []) []) (other_is y x other)

module _ (b : BoardData) (x : List ℕ) (d : ℕ) (below : IsBelow x b.sizes) (leaper : IsLeaper b) (inside : IsInside d b.sizes x) where
  short : longest b ≡ 1
  short = ap (longest_move (sides_of b.sizes b.wrap)) leaper

  there : Contains (box b.sizes) x
  there = Contains-from_IsBelow b.sizes x below

  on_sides : (w : ℤ) → IsBelow x (map (λ s. s.size) (sides_of b.sizes w))
  on_sides w = subst (IsBelow x) (sym (sizes_of_sides 0 b.sizes w)) below

  -- the vector one step away
  abbrev tip : List ℤ → List ℕ
  tip t = parts_put b.sizes b.wrap x 1 (parts_of t) x

  module _ (t : List ℤ) (long : length t ≡ length b.sizes) (small : All (λ e. nat_abs e ≤ d) t) (stay : parts_stay b.sizes b.wrap x 1 (parts_of t) ≡ true) where
    leads_one : leads b x t 1 ≡ Some (tip t)
    leads_one = leads_on b x t below long (leaps_there b leaper x t) 1 (omega arith) stay

    placed : place (sides_of b.sizes b.wrap) x t 1 ≡ Some (tip t)
    placed = sym (leaps_there b leaper x t 1 (omega arith)) ∙ leads_one

    placed_flat : place (sides_of b.sizes (pos 0)) x t 1 ≡ Some (tip t)
    placed_flat = place_alike (pos 0) b.wrap d 0 b.sizes x t inside small ∙ placed

    tip_there : Contains (box b.sizes) (tip t)
    tip_there =
        Contains-from_IsBelow b.sizes (tip t)
        (subst (IsBelow (tip t)) (sizes_of_sides 0 b.sizes b.wrap) (place-below (sides_of b.sizes b.wrap) x t 1 (tip t) (on_sides b.wrap) placed))

    one_from : arcs_from b x t ≡ record { tip = tip t; len = pos 1 } ∷ []
    one_from =
        straight_arcs b x t below long (leaps_there b leaper x t) 1 (omega (arith, short))
        (λ m few. stay_near b.sizes b.wrap x below (parts_of t) m (subst (λ n. All (λ p. p.0 < n) (parts_of t)) long (parts_within t)) stay few)
        (λ more. absurd (omega (arith, short, more)))

  -- of a displacement that leads onward where no side wraps around
  module _ (t : List ℤ) (long : length t ≡ length b.sizes) (small : All (λ e. nat_abs e ≤ d) t) (onward : leads_onward (pos 0) 0 t ≡ true) where
    both_ways : reverse (arcs_onward false x (moves_by (sides_of b.sizes b.wrap) b.piece (box b.sizes) t)) ≡ reverse (arcs_from b x t) ++ arcs_from b x (opposite t)
    both_ways =
        let long_back : length (opposite t) ≡ length b.sizes = length-map t neg_ℤ ∙ long in
        let small_back : All (λ e. nat_abs e ≤ d) (opposite t) = opposite_within d t small in
        let stay = stay_inside b.sizes b.wrap x d inside t long small in
        let y = tip t in
        let z = tip (opposite t) in
        let v = vertex_among (box b.sizes) z in
        let earlier : IsBefore z x = back_earlier b.sizes (pos 0) x t 1 z (on_sides (pos 0)) long onward (omega arith) (placed_flat (opposite t) long_back small_back stay.1) in
        let less = vertices_in_order (box b.sizes) z x (box_vectors_rise b.sizes) (tip_there (opposite t) long_back small_back stay.1) there earlier in
        let apart : v ≡ own_vertex b t x there short → ⊥ = λ e. omega (arith, less, e) in
        let one = comes_from b t x there short v (ap (option_map (vertex_among (box b.sizes))) (leads_one (opposite t) long_back small_back stay.1)) apart in
        let ahead : y ≢ x = λ same. onward_elsewhere b.sizes (pos 0) x t 1 (on_sides (pos 0)) long onward (omega arith) (placed_flat t long small stay.0 ∙ ap Some same) in
        grind (arith, leaps_earlier, there, short, leads_one, one_arc, reverse, one_from, long_back, small_back, stay, y, z, v, earlier, less, apart, one, ahead)

    run_arcs : (directed : Bool) → b.directed ≡ directed
        → reverse (arcs_onward b.directed x (moves_by (sides_of b.sizes b.wrap) b.piece (box b.sizes) t)) ≡ reverse (arcs_from b x t) ++ arcs_back b x (opposite t)
    run_arcs x0 directed = grind (arith, directed_run, edges_run, both_ways)

    pub inside_run : IsRun b x t
    inside_run = record { arcs = run_arcs b.directed refl; ahead = leaps_there b leaper x t; back = leaps_there b leaper x (opposite t) }

-- ---- all of them

-- those that lead onward
onward_runs : (b : BoardData) (x : List ℕ) (ts : List (List ℤ)) → IsBelow x b.sizes → All (λ u. length u ≡ length b.sizes) ts → AreOnward b.wrap ts → All (IsRun b x) ts
onward_runs b x ts below wide onward k e h =
    let t = get_or ts k e in record {
      arcs = onward_run b x t b.directed refl below (wide k e h) (onward k e h);
      ahead = λ l some. onward_away b t (wide k e h) (onward k e h) x l below some;
      back = λ l some. back_away b t (wide k e h) (onward k e h) x l below some;
    }

-- those of lists that are had so
pub all_runs : (b : BoardData) (x : List ℕ) (ts : List (List ℤ)) (d : ℕ) (straight leaping near : Bool) → (straight || (leaping && near)) ≡ true
    → IsBelow x b.sizes → All (λ u. length u ≡ length b.sizes) ts → All (All (λ e. nat_abs e ≤ d)) ts
    → OnTrue straight (AreOnward b.wrap ts) → OnTrue leaping (IsLeaper b) → OnTrue leaping (AreOnward (pos 0) ts) → OnTrue near (IsInside d b.sizes x)
    → All (IsRun b x) ts
all_runs b x ts d true leaping near have below wide small onward leaper flat inside = onward_runs b x ts below wide onward
all_runs b x ts d false true true have below wide small onward leaper flat inside =
    λ k e h. inside_run b x d below leaper inside (get_or ts k e) (wide k e h) (small k e h) (flat k e h)
all_runs b x ts d straight leaping near have below wide small onward leaper flat inside = grind (arith, true≢false)
