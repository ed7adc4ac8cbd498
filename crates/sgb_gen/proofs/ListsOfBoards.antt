-- The list of a vector of a board, from the moves by one displacement after another.
use Rattle.std.proofs.Common.{rules, ◌≡◌, ◌≤◌, ℕ, ◌+◌, ℤ, nat_abs, Bool, true, false, cond, List, [], ◌∷◌, ◌++◌, map, reverse, get_or, Option, Some, None, refl, sym, ap, ap₂, subst, ◌∙◌, inl, inr, arith, append-nil}
use Rattle.std.specs.Prelude.{◌==◌}
use Rattle.std.specs.Cmp.Lexicographic.{bytes_decides}
use Rattle.std.specs.List.{All, Contains, filter, flat_map, range_with_len}
use Rattle.std.specs.Option.{option_map_or}
use Rattle.std.proofs.lemmas.Bool.{cases_Bool}
use Rattle.std.proofs.lemmas.Bool.Decides.{Decides-eqb}
use Rattle.std.proofs.lemmas.Grind.{flat_map-append}
use Rattle.std.proofs.lemmas.List.{reverse-append}
use Rattle.std.proofs.lemmas.List.Elements.{All-cons, All-contains, All-contains_itself, All-nil, filter-append, filter_passes}
use Rattle.sgb_vec.specs.Boxes.{box}
use Rattle.sgb_vec.specs.Lexicographic.{IsBefore, IsBelow, IsRising}
use Rattle.sgb_vec.proofs.FamilyLaws.{box_vectors_rise}
use Rattle.sgb_vec.proofs.BoxPlaces.{Contains-from_IsBelow, IsBelow-from_Contains}
use Rattle.sgb_gen.specs.Boards.{BoardData, moves_of_board}
use Rattle.sgb_moves.specs.Displacements.{signings, sum_of_squares}
use Rattle.sgb_moves.specs.inner.EntryBounds.{displacements_within, vectors_within}
use Rattle.sgb_gen.specs.inner.LocalArcs.{arcs_by, arcs_of_moves}
use Rattle.sgb_gen.specs.inner.LocalBoards.{arcs_onward, move_arc, moves_by}
use Rattle.sgb_gen.specs.LocalLists.{LocalArc, list_at}
use Rattle.sgb_moves.specs.Moves.{Side, board_moves, moves_from, sides_of}
use Rattle.sgb_moves.specs.inner.Moves.{destination, longest_move}
use Rattle.sgb_moves.specs.VectorMoves.{Move, same_vector}
use Rattle.sgb_gen.specs.VectorGraphs.{HasEnds}
use Rattle.sgb_gen.proofs.DisplacementLengths.{signings-sizes}
use Rattle.sgb_moves.proofs.DisplacementWalk.{entries-small}
use Rattle.sgb_gen.proofs.MoveLists.{list_at-moves}
use Rattle.sgb_gen.proofs.MovesInOrder.{all_lead, all_start}
use Rattle.sgb_moves.proofs.NextSignings.{sizes_of}
use Rattle.sgb_vec.proofs.Lists.{All-flat_map, AllPairs-first, AllPairs-others, Contains-cases, Contains-none, filter-all, filter-none}
use Rattle.sgb_gen.proofs.OrderedLists.{before_none}
use Rattle.sgb_gen.proofs.Reaches.{destination-below, move, moves_from-until, moves_until}

-- ---- the order turned

-- the list is what the moves make one after another, turned round
pub list_turned : (directed : Bool) (x : List ℕ) (ms : List Move) → arcs_of_moves directed x ms ≡ reverse (arcs_onward directed x ms)
list_turned directed x [] = refl
list_turned directed x (m ∷ ms) = search (rules, reverse-append, reverse, cond, same_vector, LocalArc, bytes_decides, list_turned directed x ms)

-- ---- the moves from one vector

module _ (sides : List Side) (piece : ℤ) (t : List ℤ) (x : List ℕ) where
  abbrev starts_here : Move → Bool
  starts_here m = same_vector m.from x

  differs : (v : List ℕ) → (v ≡ x → ⊥) → same_vector v x ≡ false
  differs v other = search (rules, cases_Bool)

  own_moves : (vs : List (List ℕ)) → IsRising vs → Contains vs x → filter starts_here (flat_map (λ y. moves_from sides piece y t) vs) ≡ moves_from sides piece x t
  own_moves [] rise there = absurd (Contains-none x there)
  own_moves (v ∷ vs) rise there =
      let own = moves_from sides piece v t in
      let rest = flat_map (λ y. moves_from sides piece y t) vs in
      let later = AllPairs-first IsBefore v vs rise in
      filter-append starts_here own rest
      ∙ elim (cases_Bool (same_vector v x)) [
        | inl same ↦
            let is : v ≡ x = (bytes_decides v x).0 same in
            let all : filter starts_here own ≡ own = filter-all starts_here own
            (λ k d within. ap (λ w. same_vector w x) (all_lead sides piece t v k d within).0 ∙ same) in
            let none : filter starts_here rest ≡ [] = filter-none starts_here rest
            (λ k d within.
            let after : IsBefore v (get_or rest k d).from = All-contains (IsBefore v) vs (get_or rest k d).from later (all_start sides piece t vs k d within) in
            differs (get_or rest k d).from (λ e. before_none v (subst (IsBefore v) (e ∙ sym is) after))) in
            ap₂ (λ p q. p ++ q) all none ∙ append-nil own ∙ ap (λ w. moves_from sides piece w t) is
        | inr other ↦
            let none : filter starts_here own ≡ [] = filter-none starts_here own
            (λ k d within. ap (λ w. same_vector w x) (all_lead sides piece t v k d within).0 ∙ other) in
            let found : Contains vs x = elim (Contains-cases v x vs there) [
              | inl same ↦ let e : same_vector v x ≡ true = (bytes_decides v x).1 same in absurd (cc)
              | inr inside ↦ inside
            ] in
            ap₂ (λ p q. p ++ q) none (own_moves vs (AllPairs-others IsBefore v vs rise) found)
      ]

  arcs_onward-own : (ms : List Move) → arcs_onward true x ms ≡ map move_arc (filter starts_here ms)
  arcs_onward-own [] = refl
  arcs_onward-own (m ∷ ms) = first (same_vector m.from x) (arcs_onward-own ms)
    where
      first : (c : Bool) → arcs_onward true x ms ≡ map move_arc (filter starts_here ms) → cond c (move_arc m ∷ []) [] ++ arcs_onward true x ms ≡ map move_arc (cond c (m ∷ filter starts_here ms) (filter starts_here ms))
      first c rest = grind (arith)

  -- the arcs of a directed list by one displacement
  pub onward_by_own : (vectors : List (List ℕ)) → IsRising vectors → Contains vectors x → arcs_onward true x (moves_by sides piece vectors t) ≡ map move_arc (moves_from sides piece x t)
  onward_by_own vectors rise there = arcs_onward-own (moves_by sides piece vectors t) ∙ ap (map move_arc) (own_moves vectors rise there)

-- where the arcs are directed, those by one displacement are those by the moves from x
pub directed_onward : (b : BoardData) (x : List ℕ) (t : List ℤ) → IsBelow x b.sizes → true ≡ b.directed
    → map move_arc (moves_from (sides_of b.sizes b.wrap) b.piece x t) ≡ arcs_onward b.directed x (moves_by (sides_of b.sizes b.wrap) b.piece (box b.sizes) t)
directed_onward b x t below directed = grind (arith, onward_by_own, box_vectors_rise, Contains-from_IsBelow)

-- ---- the moves of a board have their ends on it

moves_end : (vectors : List (List ℕ)) (x : List ℕ) (leads : ℕ → Option (List ℕ)) (ls : List ℕ) → Contains vectors x → ((l : ℕ) (y : List ℕ) → leads l ≡ Some y → Contains vectors y) → All (HasEnds vectors) (moves_until x leads ls)
moves_end vectors x leads [] from to = All-nil (HasEnds vectors)
moves_end vectors x leads (l ∷ ls) from to = next (leads l) refl (moves_end vectors x leads ls from to)
  where
    next : (o : Option (List ℕ)) → leads l ≡ o → All (HasEnds vectors) (moves_until x leads ls) → All (HasEnds vectors) (option_map_or (λ y. move x l y ∷ moves_until x leads ls) o [])
    next None e rest = All-nil (HasEnds vectors)
    next (Some y) e rest = All-cons (HasEnds vectors) (move x l y) (moves_until x leads ls) (from, to l y e) rest

moves_end_on_board : (b : BoardData) (t : List ℤ) (x : List ℕ) → Contains (box b.sizes) x → All (HasEnds (box b.sizes)) (moves_from (sides_of b.sizes b.wrap) b.piece x t)
moves_end_on_board b t x there =
    let sides = sides_of b.sizes b.wrap in
    let below : IsBelow x b.sizes = IsBelow-from_Contains b.sizes x there in
    subst (All (HasEnds (box b.sizes))) (sym (moves_from-until sides b.piece x t))
    (moves_end (box b.sizes) x (destination sides b.piece x t) (range_with_len 1 (longest_move sides b.piece)) there
    (λ l y leads. Contains-from_IsBelow b.sizes y (destination-below b.sizes b.wrap b.piece x t l y below leads)))

pub ends_on_board : (b : BoardData) → All (HasEnds (box b.sizes)) (moves_of_board b)
unfolding board_moves
ends_on_board b = search (rules, All-flat_map, moves_end_on_board, All-contains_itself)

-- the list of a vector is what all moves make one after another, turned round
pub list_of_board : (b : BoardData) (x : List ℕ) → Contains (box b.sizes) x → list_at b.directed (box b.sizes) (moves_of_board b) x ≡ reverse (arcs_onward b.directed x (moves_of_board b))
list_of_board b x there =
    cc (list_at-moves (box b.sizes) (box_vectors_rise b.sizes) b.directed x (moves_of_board b) there (ends_on_board b), list_turned b.directed x (moves_of_board b))

-- what the moves by one displacement make stands before what those by the others make
pub onward-first : (directed : Bool) (x : List ℕ) (sides : List Side) (piece : ℤ) (vectors : List (List ℕ)) (t : List ℤ) (ts : List (List ℤ))
    → arcs_onward directed x (flat_map (moves_by sides piece vectors) (t ∷ ts)) ≡ arcs_onward directed x (moves_by sides piece vectors t) ++ arcs_onward directed x (flat_map (moves_by sides piece vectors) ts)
onward-first directed x sides piece vectors t ts = flat_map-append (arcs_by directed x) (moves_by sides piece vectors t) (flat_map (moves_by sides piece vectors) ts)

-- ---- the entries of displacements are small

small_displacements : (p m : ℕ) (vs : List (List ℕ)) → p ≤ m → All (λ v. sum_of_squares v ≡ p) vs → All (λ t. All (λ e. nat_abs e ≤ m) t) (flat_map signings vs)
small_displacements p m vs below norms =
    All-flat_map (λ t. All (λ e. nat_abs e ≤ m) t) signings vs
    (λ k d within i e inside.
    let v = get_or vs k d in
    let t = get_or (signings v) i e in
    let sizes : sizes_of t ≡ v = signings-sizes v i e inside in
    entries-small m t (omega (arith, below, norms k d within, ap sum_of_squares sizes)))

pub displacements_small : (p m : ℕ) (bounds : List ℕ) → p ≤ m → All (λ t. All (λ e. nat_abs e ≤ m) t) (displacements_within p bounds)
unfolding displacements_within vectors_within
displacements_small p m bounds below =
    let hits : List ℕ → Bool = λ v. sum_of_squares v == p in
    small_displacements p m (vectors_within p bounds) below
    (λ k d within. (Decides-eqb _ _).0 (filter_passes hits (box (map (λ b. b + 1) bounds)) k d within))
