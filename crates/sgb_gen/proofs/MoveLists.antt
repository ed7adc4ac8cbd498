-- The list of a vector, as the moves that touch it make it.
use Rattle.std.proofs.Common.{◌≡◌, ℕ, ◌+◌, ℤ, pos, Bool, true, false, cond, List, [], ◌∷◌, ◌++◌, length, map, get_or, sym, ap, ap₂, subst, ◌∙◌, arith, append-nil, append_assoc, rules}
use Rattle.std.specs.Prelude.{◌==◌}
use Rattle.std.specs.Cmp.Lexicographic.{bytes_decides}
use Rattle.std.specs.List.{All, Contains}
use Rattle.std.proofs.lemmas.Bool.{cases_lt}
use Rattle.std.proofs.lemmas.Bool.Decides.{Decides-eqb}
use Rattle.std.proofs.lemmas.List.{map-append}
use Rattle.std.proofs.lemmas.List.Elements.{All-append, All-cons, All-head, All-nil, All-tail}
use Rattle.std.proofs.lemmas.Option.{get_or_from_slice_get}
use Rattle.sgb_vec.specs.Lexicographic.{IsRising}
use Rattle.sgb_graph.specs.Events.{links_at, list_from, records_of}
use Rattle.sgb_graph.specs.declared.fields.Link.{Link}
use Rattle.sgb_graph.proofs.EventLemmas.{list_none, list_first}
use Rattle.sgb_moves.specs.VectorMoves.{Move, same_vector}
use Rattle.sgb_gen.specs.VectorGraphs.{HasEnds, event_among, vertex_among}
use Rattle.sgb_gen.specs.inner.LocalArcs.{arc_if, arcs_by, arcs_of_moves}
use Rattle.sgb_gen.specs.LocalLists.{LocalArc, local_arc, list_at}
use Rattle.sgb_gen.proofs.RisingVectors.{at_vertex}
use Rattle.sgb_vec.proofs.Lists.{same_tests}

-- an arc of a link whose tip stands for a vector
abbrev arc_of : (ℕ → List ℕ) → Link → LocalArc
arc_of g l = record { tip = g l.tip; len = l.len }

-- one arc, or none
abbrev one : Bool → List ℕ → ℤ → List LocalArc
one touches tip n = cond touches (record { tip = tip; len = n } ∷ []) []

-- of two of which one at most is there, either may come first
either_first : (c d : Bool) (ps qs : List LocalArc) → (c ≡ true → d ≡ true → ⊥) → cond d qs [] ++ cond c ps [] ≡ cond c ps [] ++ cond d qs []
either_first c d ps qs h = grind (arith, append-nil)

-- the arc of v that an arc's record makes
links_of_arc : (g : ℕ → List ℕ) (v k a b : ℕ) (n : ℤ) → map (arc_of g) (links_at v k (records_of true (record { from = a; to = b; len = n }))) ≡ one (a == v) (g b) n
links_of_arc g v k a b n = grind (arith)

-- those that an edge's two records make
links_of_edge : (g : ℕ → List ℕ) (v k a b : ℕ) (n : ℤ) → map (arc_of g) (links_at v k (records_of false (record { from = a; to = b; len = n }))) ≡ one (a == v) (g b) n ++ one (b == v) (g a) n
links_of_edge g v k a b n = grind (arith, cases_lt, either_first, Decides-eqb)

-- the arcs by some moves and then others
pub arcs-append : (directed : Bool) (x : List ℕ) (ms ns : List Move) → arcs_of_moves directed x (ms ++ ns) ≡ arcs_of_moves directed x ns ++ arcs_of_moves directed x ms
arcs-append directed x [] ns = sym (append-nil (arcs_of_moves directed x ns))
arcs-append directed x (m ∷ ms) ns =
    cc (arcs-append directed x ms ns, append_assoc (arcs_of_moves directed x ns) (arcs_of_moves directed x ms) (arcs_by directed x m))

module _ (vectors : List (List ℕ)) (rise : IsRising vectors) where
  vector_back : (a : List ℕ) → Contains vectors a → get_or vectors (vertex_among vectors a) [] ≡ a
  vector_back a h = get_or_from_slice_get vectors (vertex_among vectors a) a [] (at_vertex vectors a rise h)

  -- vectors are the same where their vertices are
  pub same_vertex : (a b : List ℕ) → Contains vectors a → Contains vectors b → (vertex_among vectors a == vertex_among vectors b) ≡ same_vector a b
  same_vertex a b ha hb =
      same_tests (vertex_among vectors a == vertex_among vectors b) (same_vector a b)
      (λ e. (bytes_decides a b).1 (sym (vector_back a ha) ∙ ap (λ i. get_or vectors i []) ((Decides-eqb _ _).0 e) ∙ vector_back b hb))
      (λ e. (Decides-eqb _ _).1 (ap (vertex_among vectors) ((bytes_decides a b).0 e)))

  -- the arcs of x that one move makes
  move_arcs : (directed : Bool) (x : List ℕ) (k : ℕ) (m : Move) → Contains vectors x → HasEnds vectors m → map (local_arc vectors) (links_at (vertex_among vectors x) k (records_of directed (event_among vectors m))) ≡ arcs_by directed x m
  move_arcs true x k m hx ends = grind (arith, links_of_arc, one, same_vertex, vector_back)
  move_arcs false x k m hx ends =
      links_of_edge (λ t. get_or vectors t []) (vertex_among vectors x) k (vertex_among vectors m.from) (vertex_among vectors m.to) (pos m.len)
      ∙ ap₂ (λ ps qs. ps ++ qs)
      (ap₂ (λ c t. one c t (pos m.len)) (same_vertex m.from x ends.0 hx) (vector_back m.to ends.1))
      (ap₂ (λ c t. one c t (pos m.len)) (same_vertex m.to x ends.1 hx) (vector_back m.from ends.0))

  from_moves : (directed : Bool) (x : List ℕ) (k : ℕ) (moves : List Move) → Contains vectors x → All (HasEnds vectors) moves → map (local_arc vectors) (list_from directed k (map (event_among vectors) moves) (vertex_among vectors x)) ≡ arcs_of_moves directed x moves
  from_moves directed x k [] hx ends = ap (map (local_arc vectors)) (list_none directed k (vertex_among vectors x))
  from_moves directed x k (m ∷ moves) hx ends =
      let rows = records_of directed (event_among vectors m) in
      search (rules, list_first, map-append, All-tail, move_arcs, All-head, local_arc, event_among, vertex_among, links_at, HasEnds, rows, from_moves directed x (k + length rows) moves hx (All-tail (HasEnds vectors) m moves ends))

  -- the list of x is what the moves make, those of later moves first
  pub list_at-moves : (directed : Bool) (x : List ℕ) (moves : List Move) → Contains vectors x → All (HasEnds vectors) moves → list_at directed vectors moves x ≡ arcs_of_moves directed x moves
  unfolding list_at
  list_at-moves directed x moves hx ends = from_moves directed x 0 moves hx ends

-- an arc leads to one of these vectors
abbrev HasTipIn : List (List ℕ) → LocalArc → Type 0
HasTipIn vectors arc = Contains vectors arc.tip

tips_by : (vectors : List (List ℕ)) (directed : Bool) (x : List ℕ) (m : Move) → HasEnds vectors m → All (HasTipIn vectors) (arcs_by directed x m)
tips_by vectors directed x m ends = search (rules, All-append, HasTipIn, All-cons, All-nil, same_vector, arc_if)

tips_of_moves : (vectors : List (List ℕ)) (directed : Bool) (x : List ℕ) (moves : List Move) → All (HasEnds vectors) moves → All (HasTipIn vectors) (arcs_of_moves directed x moves)
tips_of_moves vectors directed x [] ends = All-nil (HasTipIn vectors)
tips_of_moves vectors directed x (m ∷ moves) ends = search (rules, All-append, HasTipIn, All-tail, tips_by, All-head, arcs_of_moves, arcs_by, HasEnds, tips_of_moves vectors directed x moves (All-tail (HasEnds vectors) m moves ends))

-- and those of a list
pub tips_of_list : (vectors : List (List ℕ)) (directed : Bool) (x : List ℕ) (moves : List Move) → IsRising vectors → All (HasEnds vectors) moves → Contains vectors x
    → All (λ (a : LocalArc). Contains vectors a.tip) (list_at directed vectors moves x)
tips_of_list vectors directed x moves rise ends member =
    subst (All (HasTipIn vectors)) (sym (list_at-moves vectors rise directed x moves member ends)) (tips_of_moves vectors directed x moves ends)
