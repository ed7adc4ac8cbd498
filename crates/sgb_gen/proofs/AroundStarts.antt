-- The edges of a rider that touch a vector by a displacement, with no sorting, where the vectors behind it are known to fall:
-- those that come before it, and after these, where the moves have gone around, those that come after it.
use Rattle.std.proofs.Common.{◌≡◌, ◌≢◌, ℕ, ◌+◌, ◌<◌, ℤ, Bool, false, not, cond, List, [], ◌∷◌, ◌++◌, length, map, reverse, get_or, refl, sym, ap, ap₂, subst, subst₂, ◌∙◌, arith, append_assoc, length-append, rules}
use Rattle.std.specs.Prelude.{◌==◌, ⊤}
use Rattle.std.specs.List.{All, AllPairs, Contains, flat_map}
use Rattle.std.specs.List.Sorted.{IsPermutation}
use Rattle.std.proofs.lemmas.Bool.{eq-eqb, ne_eqb}
use Rattle.std.proofs.lemmas.Grind.{flat_map-append}
use Rattle.std.proofs.lemmas.List.{get_or-append-add, get_or_append_left, map-append}
use Rattle.std.proofs.lemmas.List.Elements.{All-append, All-contains, All-head, All-map, All-tail, All-weaker}
use Rattle.std.proofs.lemmas.List.Sorted.{All-permutation, Contains-permutation, IsPermutation-append, IsPermutation-append_comm, IsPermutation-refl, IsPermutation-reverse, IsPermutation-trans}
use Rattle.sgb_vec.specs.Boxes.{box}
use Rattle.sgb_vec.specs.Lexicographic.{IsBelow}
use Rattle.sgb_vec.proofs.Lists.{All-reverse, AllPairs-append, AllPairs-follows, AllPairs-map, AllPairs-reverse, filter-all, reverse-first}
use Rattle.sgb_gen.specs.Boards.{BoardData}
use Rattle.sgb_gen.specs.inner.LocalBoards.{arcs_onward, edge_arcs, move_arc, moves_by, other_starts, starts_of}
use Rattle.sgb_gen.specs.LocalLists.{LocalArc}
use Rattle.sgb_moves.specs.Moves.{LeadsTo, Side, moves_from, opposite, sides_of}
use Rattle.sgb_moves.specs.inner.Moves.{destination}
use Rattle.sgb_moves.specs.VectorMoves.{Move}
use Rattle.sgb_gen.specs.VectorGraphs.{vertex_among}
use Rattle.sgb_gen.proofs.MovesInOrder.{all_lead, lengths_rise, move_there}
use Rattle.sgb_gen.proofs.TouchingMoves.{IsEarlier, below, first_less, in_order_same, leads_there, onward_by_touching, second_less, starts_touch, touching, touching_found}
use Rattle.sgb_gen.proofs.Reaches.{move}
use Rattle.sgb_moves.proofs.TurnedMoves.{moves_turned}
use Rattle.sgb_gen.proofs.Vertices.{other_is}

-- what is made of elements in the other order
pub map-reverse : {X Y : Type 0} (f : X → Y) (xs : List X) → map f (reverse xs) ≡ reverse (map f xs)
map-reverse f [] = refl
map-reverse f (x ∷ xs) =
    cc (reverse-first x xs, map-append f (reverse xs) (x ∷ []), map-reverse f xs, reverse-first (f x) (map f xs))

-- each element makes one
one_each : {X Y Z : Type 0} (f : Y → List Z) (g : X → Y) (h : X → Z) (xs : List X) → All (λ x. f (g x) ≡ h x ∷ []) xs → flat_map f (map g xs) ≡ map h xs
one_each f g h [] all = refl
one_each f g h (x ∷ xs) all =
    ap₂ (λ p q. p ++ q) (All-head (λ y. f (g y) ≡ h y ∷ []) x xs all) (one_each f g h xs (All-tail (λ y. f (g y) ≡ h y ∷ []) x xs all))

-- what is known of all is known of a part
left_of : {X : Type 0} (P : X → Type 0) (xs ys : List X) → All P (xs ++ ys) → All P xs
left_of P xs ys h = λ k d within. subst P (get_or_append_left xs ys d k within) (h k d (omega (arith, within, length-append xs ys)))

right_of : {X : Type 0} (P : X → Type 0) (xs ys : List X) → All P (xs ++ ys) → All P ys
right_of P xs ys h = λ k d within. subst P (get_or-append-add xs ys k d) (h (length xs + k) d (omega (arith, within, length-append xs ys)))

module _ (b : BoardData) (t : List ℤ) (x : List ℕ) (there : Contains (box b.sizes) x) where
  abbrev sides : List Side
  sides = sides_of b.sizes b.wrap

  abbrev vectors : List (List ℕ)
  vectors = box b.sizes

  abbrev u : ℕ
  u = vertex_among (box b.sizes) x

  abbrev pub ahead : List Move
  ahead = moves_from sides b.piece x t

  abbrev pub behind : List Move
  behind = moves_from sides b.piece x (opposite t)

  abbrev pub Leads : List ℤ → Move → Type 0
  Leads ts m = (m.from ≡ x) × LeadsTo sides b.piece x ts m.len m.to

  below_x : IsBelow x (map (λ s. s.size) (sides_of b.sizes b.wrap))
  below_x = below b t x there x there

  -- a start behind x, and x
  abbrev from_behind : Move → ℕ × ℕ
  from_behind m = (vertex_among (box b.sizes) m.to, m.len)

  abbrev from_here : Move → ℕ × ℕ
  from_here m = (vertex_among (box b.sizes) x, m.len)

  -- each start is before the next
  abbrev pub Falls : List Move → Type 0
  Falls moves = AllPairs (λ m n. vertex_among (box b.sizes) n.to < vertex_among (box b.sizes) m.to) moves

  abbrev edge : ℕ × ℕ → List LocalArc
  edge s = edge_arcs x s.1 (destination sides b.piece x (cond (s.0 == u) t (opposite t)) s.1)

  -- an edge to another vector makes one arc
  one_arc : (m : Move) (ts : List ℤ) (c : Bool) → cond c t (opposite t) ≡ ts → Leads ts m → m.to ≢ x → edge_arcs x m.len (destination sides b.piece x (cond c t (opposite t)) m.len) ≡ move_arc m ∷ []
  one_arc m ts c by lead other = grind (arith, leads_there, sides, below_x, other_is)

  -- ---- near: the moves from vectors before x; far: those from vectors after it

  module _ (near far : List Move) (split : behind ≡ near ++ far) (before : All (λ m. vertex_among (box b.sizes) m.to < u) near) (after : All (λ m. u < vertex_among (box b.sizes) m.to) far)
      (near_falls : Falls near) (far_falls : Falls far) where
    abbrev near_starts : List (ℕ × ℕ)
    near_starts = map from_behind (reverse near)

    abbrev own_starts_here : List (ℕ × ℕ)
    own_starts_here = map from_here ahead

    abbrev far_starts : List (ℕ × ℕ)
    far_starts = map from_behind (reverse far)

    abbrev pub starts : List (ℕ × ℕ)
    starts = near_starts ++ (own_starts_here ++ far_starts)

    falling_starts : (moves : List Move) → Falls moves → AllPairs IsEarlier (map from_behind (reverse moves))
    falling_starts moves falls =
        AllPairs-map IsEarlier from_behind (reverse moves)
        (AllPairs-reverse (λ m n. IsEarlier (from_behind m) (from_behind n)) moves
        (AllPairs-follows (λ _. ⊤) (λ m n. vertex_among vectors n.to < vertex_among vectors m.to) (λ m n. IsEarlier (from_behind n) (from_behind m)) moves
        (λ m n _ _ less. first_less (from_behind n) (from_behind m) less) (λ k d within. tt) falls))

    own_rise : AllPairs IsEarlier own_starts_here
    own_rise =
        AllPairs-map IsEarlier from_here ahead
        (AllPairs-follows (Leads t) (λ m n. m.len < n.len) (λ m n. IsEarlier (from_here m) (from_here n)) ahead
        (λ m n p q less. second_less (from_here m) (from_here n) refl less) (all_lead sides b.piece t x) (lengths_rise sides b.piece t x))

    -- each of these is less than each of those
    abbrev Under : List (ℕ × ℕ) → List (ℕ × ℕ) → Type 0
    Under ps qs = All (λ p. All (λ q. p.0 < q.0) qs) ps

    under_earlier : (ps qs : List (ℕ × ℕ)) → Under ps qs → All (λ p. All (IsEarlier p) qs) ps
    under_earlier ps qs h = λ k d within i e inside. first_less (get_or ps k d) (get_or qs i e) (h k d within i e inside)

    own_under : Under own_starts_here far_starts
    own_under =
        All-map (λ p. All (λ q. p.0 < q.0) far_starts) from_here ahead
        (λ k d within. All-map (λ q. u < q.0) from_behind (reverse far) (All-reverse (λ m. u < vertex_among (box b.sizes) m.to) far after))

    near_under : Under near_starts (own_starts_here ++ far_starts)
    near_under =
        All-map (λ p. All (λ q. p.0 < q.0) (own_starts_here ++ far_starts)) from_behind (reverse near)
        (All-reverse (λ m. All (λ q. vertex_among vectors m.to < q.0) (own_starts_here ++ far_starts)) near
        (λ k d within.
        let m = get_or near k d in
        let less : vertex_among vectors m.to < u = before k d within in
        All-append (λ q. vertex_among vectors m.to < q.0) own_starts_here far_starts
        (All-map (λ q. vertex_among vectors m.to < q.0) from_here ahead (λ i e inside. less))
        (All-map (λ q. vertex_among vectors m.to < q.0) from_behind (reverse far)
        (All-reverse (λ n. vertex_among vectors m.to < vertex_among vectors n.to) far (λ i e inside. omega (arith, less, after i e inside))))))

    starts_rise : AllPairs IsEarlier starts
    starts_rise =
        AllPairs-append IsEarlier near_starts (own_starts_here ++ far_starts) (falling_starts near near_falls)
        (AllPairs-append IsEarlier own_starts_here far_starts own_rise (falling_starts far far_falls) (under_earlier own_starts_here far_starts own_under))
        (under_earlier near_starts (own_starts_here ++ far_starts) near_under)

    -- all vertices behind x are others
    all_away : All (λ m. vertex_among (box b.sizes) m.to ≢ u) behind
    all_away =
        subst (All (λ m. vertex_among (box b.sizes) m.to ≢ u)) (sym split)
        (All-append (λ m. vertex_among (box b.sizes) m.to ≢ u) near far (λ k d within e. omega (arith, before k d within, e)) (λ k d within e. omega (arith, after k d within, e)))

    all_others : other_starts vectors u behind ≡ map from_behind near ++ map from_behind far
    all_others =
        let far_away : Move → Bool = λ m. not (vertex_among vectors m.to == u) in
        ap (map from_behind) (filter-all far_away behind (λ k d within. ap not (ne_eqb (vertex_among vectors (get_or behind k d).to) u (all_away k d within))))
        ∙ ap (map from_behind) split
        ∙ map-append from_behind near far

    -- so no move from x leads to it
    elsewhere : All (λ m. m.to ≢ x) ahead
    elsewhere =
        λ k d within same.
        let m = get_or ahead k d in
        let home : LeadsTo sides b.piece x t m.len x = subst (LeadsTo sides b.piece x t m.len) same (all_lead sides b.piece t x k d within).1 in
        let back : LeadsTo sides b.piece x (opposite t) m.len x = (moves_turned sides b.piece t x x m.len below_x below_x).0 home in
        All-contains (λ n. vertex_among (box b.sizes) n.to ≢ u) behind (move x m.len x) all_away (move_there sides b.piece (opposite t) x x m.len back) refl

    turned : (moves : List Move) → IsPermutation (map from_behind moves) (map from_behind (reverse moves))
    turned moves = subst (IsPermutation (map from_behind moves)) (sym (map-reverse from_behind moves)) (IsPermutation-reverse (map from_behind moves))

    -- the starts are those that would be sorted
    moved : IsPermutation (starts_of sides b.piece vectors x t) starts
    moved =
        let own = own_starts_here in
        let ns = map from_behind near in
        let fs = map from_behind far in
        let front : IsPermutation (own ++ ns) (near_starts ++ own) = IsPermutation-trans (own ++ ns) (ns ++ own) (near_starts ++ own) (IsPermutation-append_comm own ns) (IsPermutation-append ns near_starts own own (turned near) (IsPermutation-refl own)) in
        let both : IsPermutation ((own ++ ns) ++ fs) ((near_starts ++ own) ++ far_starts) = IsPermutation-append (own ++ ns) (near_starts ++ own) fs far_starts front (turned far) in
        subst (λ ss. IsPermutation (own ++ ss) starts) (sym all_others)
        (subst₂ IsPermutation (append_assoc own ns fs) (append_assoc near_starts own far_starts) both)

    in_order : starts ≡ touching b t x there
    in_order = search (rules, in_order_same, starts, starts_rise, All-permutation, touching, sides, vectors, moved, starts_touch, All-weaker, Contains-permutation, touching_found)

    -- ---- their arcs

    arc_behind : (m : Move) → Leads (opposite t) m → vertex_among vectors m.to ≢ u → edge (from_behind m) ≡ move_arc m ∷ []
    arc_behind m lead other = one_arc m (opposite t) (vertex_among vectors m.to == u) (ap (λ c. cond c t (opposite t)) (ne_eqb (vertex_among vectors m.to) u other)) lead (λ same. other (ap (vertex_among vectors) same))

    arc_here : (m : Move) → Leads t m → m.to ≢ x → edge (from_here m) ≡ move_arc m ∷ []
    arc_here m lead other = one_arc m t (u == u) (ap (λ c. cond c t (opposite t)) (eq-eqb u u refl)) lead other

    all_behind : All (Leads (opposite t)) (near ++ far)
    all_behind = subst (All (Leads (opposite t))) split (all_lead sides b.piece (opposite t) x)

    part_arcs : (ms : List Move) → All (Leads (opposite t)) ms → All (λ m. vertex_among (box b.sizes) m.to ≢ u) ms → flat_map edge (map from_behind (reverse ms)) ≡ reverse (map move_arc ms)
    part_arcs ms leads away =
        one_each edge from_behind move_arc (reverse ms)
        (All-reverse (λ m. edge (from_behind m) ≡ move_arc m ∷ []) ms (λ k d within. arc_behind (get_or ms k d) (leads k d within) (away k d within)))
        ∙ map-reverse move_arc ms

    own_arcs : flat_map edge own_starts_here ≡ map move_arc ahead
    own_arcs = one_each edge from_here move_arc ahead (λ k d within. arc_here (get_or ahead k d) (all_lead sides b.piece t x k d within) (elsewhere k d within))

    -- the arcs by these edges: the near ones turned round, those from x, and the far ones turned round
    pub around_in_order : arcs_onward false x (moves_by sides b.piece vectors t) ≡ reverse (map move_arc near) ++ (map move_arc ahead ++ reverse (map move_arc far))
    around_in_order =
        onward_by_touching b t x there
        ∙ ap (flat_map edge) (sym in_order)
        ∙ flat_map-append edge near_starts (own_starts_here ++ far_starts)
        ∙ ap₂ (λ p q. p ++ q) (part_arcs near (left_of (Leads (opposite t)) near far all_behind) (λ k d within e. omega (arith, before k d within, e)))
        (flat_map-append edge own_starts_here far_starts ∙ ap₂ (λ p q. p ++ q) own_arcs (part_arcs far (right_of (Leads (opposite t)) near far all_behind) (λ k d within e. omega (arith, after k d within, e))))
