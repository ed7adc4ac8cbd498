-- The moves by one displacement that touch a vector, by the vertices where they start and their lengths: which they are,
-- that they come in order, and what they put on the vector's list.
use Rattle.std.proofs.Common.{◌≡◌, ℕ, ◌<◌, ℤ, pos, negsuc, Bool, true, false, not, cond, List, [], ◌∷◌, ◌++◌, map, drop, get_or, Some, None, refl, sym, ap, ap₂, subst, ◌∙◌, inl, inr, arith, append-nil, rules}
use Rattle.std.specs.Prelude.{◌==◌, ◌||◌}
use Rattle.std.specs.Cmp.Lexicographic.{bytes_decides}
use Rattle.std.specs.List.{All, AllPairs, Contains, filter, flat_map}
use Rattle.std.proofs.lemmas.Bool.{cases_Bool, eq-eqb}
use Rattle.std.proofs.lemmas.Grind.{flat_map-append}
use Rattle.std.proofs.lemmas.List.Elements.{All-append, All-contains_itself, All-filter, All-head, All-map, All-tail, Contains-append_left, Contains-append_right, filter_passes}
use Rattle.std.proofs.lemmas.List.Kept.{AllPairs-filter}
use Rattle.sgb_vec.specs.Boxes.{box}
use Rattle.sgb_vec.specs.Lexicographic.{IsBefore, IsBelow}
use Rattle.sgb_vec.proofs.FamilyLaws.{box_vectors_rise}
use Rattle.sgb_vec.proofs.BoxPlaces.{Contains-from_IsBelow, IsBelow-from_Contains}
use Rattle.sgb_gen.specs.Boards.{BoardData}
use Rattle.sgb_gen.specs.inner.LocalArcs.{arc_if, arcs_by}
use Rattle.sgb_gen.specs.inner.LocalBoards.{arcs_of_starts, arcs_onward, edge_arcs, moves_by, other_starts, own_starts, starts_of}
use Rattle.sgb_gen.specs.LocalLists.{LocalArc}
use Rattle.sgb_moves.specs.Moves.{LeadsTo, Side, moves_from, opposite, place, sides_of}
use Rattle.sgb_moves.specs.inner.Moves.{destination}
use Rattle.sgb_moves.specs.VectorMoves.{Move, same_vector}
use Rattle.sgb_gen.specs.VectorGraphs.{vertex_among}
use Rattle.sgb_gen.proofs.Destinations.{place-below}
use Rattle.sgb_gen.proofs.MoveLists.{same_vertex}
use Rattle.sgb_gen.proofs.MovesInOrder.{ComesBefore, all_lead, all_start, move_there, moves_in_order, vertices_in_order}
use Rattle.sgb_vec.proofs.Lists.{All-flat_map, AllPairs-follows, AllPairs-map, Contains-flat_map, Contains-image, Contains-passing, made-append}
use Rattle.sgb_gen.proofs.OrderedLists.{before_at, rising_same}
use Rattle.sgb_gen.proofs.Reaches.{move, sizes_of_sides}
use Rattle.sgb_moves.proofs.Riders.{Contains-rider_reach}
use Rattle.sgb_moves.proofs.TurnedMoves.{moves_turned}
use Rattle.sgb_gen.proofs.Vertices.{same_is}

-- a vertex and a length as a vector of two entries
abbrev pub pair : ℕ × ℕ → List ℕ
pair s = s.0 ∷ s.1 ∷ []

-- in order: by vertices, then by lengths
abbrev pub IsEarlier : ℕ × ℕ → ℕ × ℕ → Type 0
IsEarlier p q = IsBefore (pair p) (pair q)

-- by the vertices, and by the lengths
pub first_less : (p q : ℕ × ℕ) → p.0 < q.0 → IsEarlier p q
first_less p q less = before_at (pair p) (pair q) 0 (λ i h. absurd (omega (arith, h))) less (omega arith) (omega arith)

pub second_less : (p q : ℕ × ℕ) → p.0 ≡ q.0 → p.1 < q.1 → IsEarlier p q
second_less p q same less =
    before_at (pair p) (pair q) 1 (λ i h. let zero : i ≡ 0 = omega (arith, h) in subst (λ j. get_or (pair p) j 0 ≡ get_or (pair q) j 0) (sym zero) same) less (omega arith) (omega arith)

-- ---- starts in order

unpaired : (ps qs : List (ℕ × ℕ)) → map pair ps ≡ map pair qs → ps ≡ qs
unpaired [] [] e = refl
unpaired (p ∷ ps) (q ∷ qs) e = grind (arith, unpaired ps qs (ap (λ vs. drop 1 vs) e))
unpaired _ _ e = absurd cc

paired : (ps qs : List (ℕ × ℕ)) → All (Contains qs) ps → All (Contains (map pair qs)) (map pair ps)
paired ps qs h = All-map (Contains (map pair qs)) pair ps (λ k d within. Contains-image pair qs (get_or ps k d) (h k d within))

-- lists that rise and have the same members are the same
pub same_in_order : (ps qs : List (ℕ × ℕ)) → AllPairs IsEarlier ps → AllPairs IsEarlier qs → All (Contains qs) ps → All (Contains ps) qs → ps ≡ qs
same_in_order ps qs rise_p rise_q has found =
    unpaired ps qs (rising_same (map pair ps) (map pair qs) (AllPairs-map IsBefore pair ps rise_p) (AllPairs-map IsBefore pair qs rise_q) (paired ps qs has) (paired qs ps found))

-- ---- the moves

-- where a move of a length leads is its destination
pub leads_there : (sides : List Side) (piece : ℤ) (t : List ℤ) (y : List ℕ) (l : ℕ) (z : List ℕ) → IsBelow y (map (λ s. s.size) sides) → LeadsTo sides piece y t l z → destination sides piece y t l ≡ Some z
leads_there sides (pos p) t y l z below leads = leads.1
leads_there sides (negsuc p) t y l z below leads =
    let goes = (Contains-rider_reach sides y t l below).0 leads.0 in
    ap (λ c. cond c (place sides y t l) None) (goes.1 l goes.0 (omega arith)) ∙ leads.1

module _ (b : BoardData) (t : List ℤ) (x : List ℕ) (there : Contains (box b.sizes) x) where
  abbrev sides : List Side
  sides = sides_of b.sizes b.wrap

  abbrev vectors : List (List ℕ)
  vectors = box b.sizes

  abbrev u : ℕ
  u = vertex_among (box b.sizes) x

  -- the moves that touch x
  abbrev touches : Move → Bool
  touches m = same_vector m.from x || same_vector m.to x

  abbrev start : Move → ℕ × ℕ
  start m = (vertex_among (box b.sizes) m.from, m.len)

  abbrev pub touching : List (ℕ × ℕ)
  touching = map start (filter touches (moves_by sides b.piece vectors t))

  -- what is known of each move
  abbrev IsMove : Move → Type 0
  IsMove m = Contains vectors m.from × LeadsTo sides b.piece m.from t m.len m.to

  pub below : (y : List ℕ) → Contains (box b.sizes) y → IsBelow y (map (λ s. s.size) (sides_of b.sizes b.wrap))
  below y h = subst (IsBelow y) (sym (sizes_of_sides 0 b.sizes b.wrap)) (IsBelow-from_Contains b.sizes y h)

  all_moves : All IsMove (moves_by sides b.piece vectors t)
  all_moves =
      All-flat_map IsMove (λ y. moves_from sides b.piece y t) vectors
      (λ k d within i e inside.
      let y = get_or vectors k d in
      let lead = all_lead sides b.piece t y i e inside in
      let from : (get_or (moves_from sides b.piece y t) i e).from ≡ y = lead.0 in (
        subst (Contains vectors) (sym from) (All-contains_itself vectors k d within),
        subst (λ z. LeadsTo sides b.piece z t (get_or (moves_from sides b.piece y t) i e).len (get_or (moves_from sides b.piece y t) i e).to) (sym from) lead.1,
      ))

  same_from : (v w : List ℕ) → same_vector v w ≡ true → v ≡ w
  same_from v w e = (bytes_decides v w).0 e

  -- another vector has another vertex
  other_vertex : (v : List ℕ) → Contains vectors v → same_vector v x ≡ false → (vertex_among vectors v == u) ≡ false
  other_vertex v h e = same_vertex vectors (box_vectors_rise b.sizes) v x h there ∙ e

  -- ---- the arcs

  abbrev edge : ℕ × ℕ → List LocalArc
  edge s = edge_arcs x s.1 (destination sides b.piece x (cond (s.0 == u) t (opposite t)) s.1)

  one_move : (m : Move) → IsMove m → arcs_by false x m ≡ flat_map edge (map start (filter touches (m ∷ [])))
  one_move m is = elim (cases_Bool (same_vector m.from x)) [
    | inl own ↦ search (rules, same_from, vectors, u, eq-eqb, sides, cond, leads_there, below, append-nil, edge, start, vertex_among, LeadsTo, destination, opposite, arc_if, same_vector, edge_arcs)
    | inr other ↦
        elim (cases_Bool (same_vector m.to x)) [
          | inl comes ↦
              let to : m.to ≡ x = same_from m.to x comes in
              let vertex = other_vertex m.from is.0 other in
              let lead : LeadsTo sides b.piece m.from t m.len x = subst (LeadsTo sides b.piece m.from t m.len) to is.1 in
              let home : LeadsTo sides b.piece x (opposite t) m.len m.from = (moves_turned sides b.piece t x m.from m.len (below x there) (below m.from is.0)).0 lead in
              let goes : destination sides b.piece x (cond (vertex_among vectors m.from == u) t (opposite t)) m.len ≡ Some m.from = grind (arith, sides, cond, leads_there, below) in
              ap₂ (λ c e. arc_if c m.to m.len ++ arc_if e m.from m.len) other comes
              ∙ ap (λ c. record { tip = m.from; len = pos m.len } ∷ (cond c (record { tip = x; len = pos m.len } ∷ []) [])) (sym other)
              ∙ sym (append-nil (edge_arcs x m.len (Some m.from)))
              ∙ ap (λ o. edge_arcs x m.len o ++ []) (sym goes)
              ∙ ap₂ (λ c e. flat_map edge (map start (cond (c || e) (m ∷ []) []))) (sym other) (sym comes)
          | inr passes ↦ grind (arith, edge, start, cond)
        ]
  ]

  onward_of : (ms : List Move) → All IsMove ms → flat_map (arcs_by false x) ms ≡ flat_map edge (map start (filter touches ms))
  onward_of [] all = refl
  onward_of (m ∷ ms) all = grind (arith, one_move, All-head, IsMove, All-tail, flat_map-append, edge, start, touches, made-append, onward_of ms (All-tail IsMove m ms all))

  -- the moves put on the list of x what those do that touch it
  pub onward_by_touching : arcs_onward false x (moves_by sides b.piece vectors t) ≡ arcs_of_starts sides b.piece u x t (opposite t) touching
  onward_by_touching = onward_of (moves_by sides b.piece vectors t) all_moves

  -- ---- their members

  -- a move between vectors that touches x is among the touching ones
  among_touching : (y z : List ℕ) (l : ℕ) → Contains vectors y → LeadsTo sides b.piece y t l z → (same_vector y x || same_vector z x) ≡ true → Contains touching (vertex_among vectors y, l)
  among_touching y z l in_y lead passes =
      let is : Contains (moves_by sides b.piece vectors t) (move y l z) = Contains-flat_map (λ v. moves_from sides b.piece v t) vectors y (move y l z) in_y (move_there sides b.piece t y z l lead) in
      Contains-image start (filter touches (moves_by sides b.piece vectors t)) (move y l z) (Contains-passing touches (moves_by sides b.piece vectors t) (move y l z) passes is)

  -- a place of the board where a move from x leads is a vector
  pub vector_there : (ts : List ℤ) (y : List ℕ) (l : ℕ) → LeadsTo sides b.piece x ts l y → Contains vectors y
  vector_there ts y l lead =
      Contains-from_IsBelow b.sizes y
      (subst (IsBelow y) (sizes_of_sides 0 b.sizes b.wrap) (place-below sides x ts l y (below x there) lead.1))

  own_there : All (λ s. Contains touching s) (own_starts u (moves_from sides b.piece x t))
  own_there =
      All-map (Contains touching) (λ m. (u, m.len)) (moves_from sides b.piece x t)
      (λ k d within.
      let m = get_or (moves_from sides b.piece x t) k d in
      let lead = all_lead sides b.piece t x k d within in
      among_touching x m.to m.len there lead.1 (ap (λ c. c || same_vector m.to x) (same_is x)))

  or_true : (c : Bool) → (c || true) ≡ true
  or_true c = grind (arith)

  others_there : All (λ s. Contains touching s) (other_starts vectors u (moves_from sides b.piece x (opposite t)))
  others_there =
      let moves = moves_from sides b.piece x (opposite t) in
      let far : Move → Bool = λ m. not (vertex_among vectors m.to == u) in
      let Leads : Move → Type 0 = λ m. (m.from ≡ x) × LeadsTo sides b.piece x (opposite t) m.len m.to in
      All-map (Contains touching) (λ m. (vertex_among vectors m.to, m.len)) (filter far moves)
      (λ k d within.
      let m = get_or (filter far moves) k d in
      let lead = All-filter far Leads moves (all_lead sides b.piece (opposite t) x) k d within in
      let in_y = vector_there (opposite t) m.to m.len lead.1 in
      let back : LeadsTo sides b.piece m.to t m.len x = (moves_turned sides b.piece t x m.to m.len (below x there) (below m.to in_y)).1 lead.1 in
      among_touching m.to x m.len in_y back (ap (λ c. same_vector m.to x || c) (same_is x) ∙ or_true (same_vector m.to x)))

  pub starts_touch : All (Contains touching) (starts_of sides b.piece vectors x t)
  starts_touch = All-append (Contains touching) (own_starts u (moves_from sides b.piece x t)) (other_starts vectors u (moves_from sides b.piece x (opposite t))) own_there others_there

  -- each of the touching moves is among those that start at x, or lead away from it by the opposite
  start_found : (m : Move) → IsMove m → touches m ≡ true → Contains (starts_of sides b.piece vectors x t) (start m)
  start_found m is passes =
      let own = own_starts u (moves_from sides b.piece x t) in
      let moves = moves_from sides b.piece x (opposite t) in
      let far : Move → Bool = λ n. not (vertex_among vectors n.to == u) in
      let others = other_starts vectors u moves in
      elim (cases_Bool (same_vector m.from x)) [
        | inl here ↦
            let from : m.from ≡ x = same_from m.from x here in
            let lead : LeadsTo sides b.piece x t m.len m.to = subst (λ z. LeadsTo sides b.piece z t m.len m.to) from is.1 in
            let found : Contains own (u, m.len) = Contains-image (λ n. (u, n.len)) (moves_from sides b.piece x t) (move x m.len m.to) (move_there sides b.piece t x m.to m.len lead) in
            Contains-append_left own others (start m) (subst (λ v. Contains own (v, m.len)) (sym (ap (vertex_among vectors) from)) found)
        | inr other ↦
            let comes : same_vector m.to x ≡ true = sym (ap (λ c. c || same_vector m.to x) other) ∙ passes in
            let to : m.to ≡ x = same_from m.to x comes in
            let lead : LeadsTo sides b.piece m.from t m.len x = subst (LeadsTo sides b.piece m.from t m.len) to is.1 in
            let home : LeadsTo sides b.piece x (opposite t) m.len m.from = (moves_turned sides b.piece t x m.from m.len (below x there) (below m.from is.0)).0 lead in
            let away : far (move x m.len m.from) ≡ true = ap not (other_vertex m.from is.0 other) in
            let found : Contains others (start m) =
            Contains-image (λ n. (vertex_among vectors n.to, n.len)) (filter far moves) (move x m.len m.from)
            (Contains-passing far moves (move x m.len m.from) away (move_there sides b.piece (opposite t) x m.from m.len home)) in
            Contains-append_right own others (start m) found
      ]

  pub touching_found : All (Contains (starts_of sides b.piece vectors x t)) touching
  touching_found =
      let moves = moves_by sides b.piece vectors t in
      All-map (Contains (starts_of sides b.piece vectors x t)) start (filter touches moves)
      (λ k d within. start_found (get_or (filter touches moves) k d) (All-filter touches IsMove moves all_moves k d within) (filter_passes touches moves k d within))

  -- ---- their order

  earlier : (m n : Move) → Contains vectors m.from → Contains vectors n.from → ComesBefore m n → IsEarlier (start m) (start n)
  earlier m n in_m in_n h = grind (arith, first_less, start, vertices_in_order, vectors, box_vectors_rise, second_less)

  pub touching_rise : AllPairs IsEarlier touching
  touching_rise =
      let moves = moves_by sides b.piece vectors t in
      AllPairs-map IsEarlier start (filter touches moves)
      (AllPairs-follows (λ m. Contains vectors m.from) ComesBefore (λ m n. IsEarlier (start m) (start n)) (filter touches moves) earlier
      (All-filter touches (λ m. Contains vectors m.from) moves (all_start sides b.piece t vectors))
      (AllPairs-filter ComesBefore touches moves (moves_in_order sides b.piece t vectors (box_vectors_rise b.sizes))))

  -- ---- so these are the starts in order

  pub in_order_same : (ps : List (ℕ × ℕ)) → AllPairs IsEarlier ps → All (Contains touching) ps → All (Contains ps) touching → ps ≡ touching
  in_order_same ps rise has found = same_in_order ps touching rise touching_rise has found
