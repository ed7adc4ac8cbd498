-- The list of a vertex by a displacement where no move is longer than 1.
use Rattle.std.proofs.Common.{◌≡◌, ◌∙◌, ◌<◌, ℕ, ℤ, Bool, false, not, cond, List, [], ◌∷◌, ◌++◌, Some, None, reverse, refl, sym, ap, ap₂, subst, arith, append-nil}
use Rattle.std.specs.Prelude.{◌==◌}
use Rattle.std.specs.List.{AllPairs, Contains}
use Rattle.std.specs.List.Sorted.{IsPermutation}
use Rattle.std.specs.Option.{option_map}
use Rattle.std.proofs.lemmas.Bool.{eq-eqb, ne_eqb}
use Rattle.std.proofs.lemmas.Grind.{flat_map-append}
use Rattle.std.proofs.lemmas.List.{reverse-append}
use Rattle.std.proofs.lemmas.List.Elements.{All-cons, All-nil}
use Rattle.std.proofs.lemmas.List.Kept.{AllPairs-cons}
use Rattle.std.proofs.lemmas.List.Sorted.{IsPermutation-append_comm}
use Rattle.sgb_vec.specs.Boxes.{box}
use Rattle.sgb_vec.proofs.Lists.{AllPairs-none}
use Rattle.sgb_gen.specs.Boards.{BoardData}
use Rattle.sgb_gen.specs.LocalLists.{LocalArc}
use Rattle.sgb_moves.specs.Moves.{opposite, sides_of}
use Rattle.sgb_moves.specs.VectorMoves.{Move}
use Rattle.sgb_gen.specs.VectorGraphs.{vertex_among}
use Rattle.sgb_gen.specs.inner.LocalBoards.{arcs_of_starts, arcs_onward, edge_arcs, moves_by, other_starts, own_starts}
use Rattle.sgb_gen.proofs.BoardWalks.{leads, led_to, left-all, left-next, left-none, left-out, longest, moves_of, one_that}
use Rattle.sgb_gen.proofs.Reaches.{move}
use Rattle.sgb_gen.proofs.SortedStarts.{rising_starts}
use Rattle.sgb_gen.proofs.TouchingMoves.{IsEarlier, first_less, onward_by_touching}
use Rattle.sgb_gen.proofs.EdgesInTurn.{edge_turned}

module _ (b : BoardData) (t : List ℤ) (x : List ℕ) (there : Contains (box b.sizes) x) (short : longest b ≡ 1) where
  -- the vertex of x
  abbrev pub own_vertex : ℕ
  own_vertex = vertex_among (box b.sizes) x

  -- the arcs by the edge that starts at x, and by the one that comes to it
  abbrev pub own_arcs : List LocalArc
  own_arcs = edge_arcs x 1 (leads b x t 1)

  abbrev pub other_arcs : List LocalArc
  other_arcs = edge_arcs x 1 (leads b x (opposite t) 1)

  -- all arcs by this displacement
  abbrev pub all_arcs : List LocalArc
  all_arcs = arcs_onward false x (moves_by (sides_of b.sizes b.wrap) b.piece (box b.sizes) t)

  abbrev pub own : List (ℕ × ℕ)
  own = own_starts own_vertex (moves_of b t x)

  abbrev pub others : List (ℕ × ℕ)
  others = other_starts (box b.sizes) own_vertex (moves_of b (opposite t) x)

  abbrev pub made : List (ℕ × ℕ) → List LocalArc
  made ss = arcs_of_starts (sides_of b.sizes b.wrap) b.piece own_vertex x t (opposite t) ss

  -- by a displacement there is one move, or none
  no_move : (r : List ℤ) → leads b x r 1 ≡ None → moves_of b r x ≡ []
  no_move r e = sym (left-all b r x) ∙ left-out b r x 1 (omega (arith, short)) e

  one_move : (r : List ℤ) (y : List ℕ) → leads b x r 1 ≡ Some y → moves_of b r x ≡ move x 1 y ∷ []
  one_move r y e = sym (left-all b r x) ∙ left-next b r x 1 y (omega (arith, short)) e ∙ ap (λ ms. move x 1 y ∷ ms) (left-none b r x 2 (omega (arith, short)))

  -- what starts at x
  own-none : leads b x t 1 ≡ None → own ≡ []
  own-none e = ap (own_starts own_vertex) (no_move t e)

  own-one : (y : List ℕ) → leads b x t 1 ≡ Some y → own ≡ (own_vertex, 1) ∷ []
  own-one y e = ap (own_starts own_vertex) (one_move t y e)

  made_own : made ((own_vertex, 1) ∷ []) ≡ own_arcs
  made_own = ap (λ c. edge_arcs x 1 (leads b x (cond c t (opposite t)) 1) ++ []) (eq-eqb own_vertex own_vertex refl) ∙ append-nil own_arcs

  made_other : (v : ℕ) → (v ≡ own_vertex → ⊥) → made ((v, 1) ∷ []) ≡ other_arcs
  made_other v apart = ap (λ c. edge_arcs x 1 (leads b x (cond c t (opposite t)) 1) ++ []) (ne_eqb v own_vertex apart) ∙ append-nil other_arcs

  -- what comes to it
  abbrev pub far : Move → Bool
  far m = not (vertex_among (box b.sizes) m.to == own_vertex)

  others-one : (y : List ℕ) (v : ℕ) → leads b x (opposite t) 1 ≡ Some y → vertex_among (box b.sizes) y ≡ v → (v ≡ own_vertex → ⊥) → others ≡ (v, 1) ∷ []
  others-one y v e is apart = grind (arith, move, ne_eqb, one_that, moves_of, one_move)

  -- what holds of no start and of one at x holds of those at x
  own-shape : (P : List (ℕ × ℕ) → Type 0) → P [] → P ((own_vertex, 1) ∷ []) → P own
  own-shape P none one = grind (arith, leads, own, own-none, own-one)

  own_made : made own ≡ own_arcs
  own_made = grind (arith, leads, made, own, own_arcs, own-none, own-one, made_own)

  single : (p : ℕ × ℕ) → AllPairs IsEarlier (p ∷ [])
  single p = AllPairs-cons IsEarlier p [] (All-nil (IsEarlier p)) (AllPairs-none IsEarlier)

  two : (p q : ℕ × ℕ) → p.0 < q.0 → AllPairs IsEarlier (p ∷ q ∷ [])
  two p q less = AllPairs-cons IsEarlier p (q ∷ []) (All-cons (IsEarlier p) q [] (first_less p q less) (All-nil (IsEarlier p))) (single q)

  of_list : (ss : List (ℕ × ℕ)) → IsPermutation (own ++ others) ss → AllPairs IsEarlier ss → all_arcs ≡ made ss
  of_list ss changed rise = onward_by_touching b t x there ∙ ap made (sym (rising_starts b t x there ss changed rise))

  made_both : (xs ys : List (ℕ × ℕ)) → made (xs ++ ys) ≡ made xs ++ made ys
  made_both xs ys = flat_map-append _ xs ys

  -- one comes from an earlier vertex
  pub leaps_earlier : (v : ℕ) → others ≡ (v, 1) ∷ [] → v < own_vertex → reverse all_arcs ≡ own_arcs ++ other_arcs
  leaps_earlier v one less =
      let ss = (v, 1) ∷ own in
      let changed : IsPermutation (own ++ others) ss = subst (λ os. IsPermutation (own ++ others) (os ++ own)) one (IsPermutation-append_comm own others) in
      let rise : AllPairs IsEarlier ss = own-shape (λ l. AllPairs IsEarlier ((v, 1) ∷ l)) (single (v, 1)) (two (v, 1) (own_vertex, 1) less) in
      let apart : v ≡ own_vertex → ⊥ = λ e. omega (arith, less, e) in
      ap reverse (of_list ss changed rise ∙ made_both ((v, 1) ∷ []) own ∙ ap₂ (λ p q. p ++ q) (made_other v apart) own_made)
      ∙ reverse-append other_arcs own_arcs
      ∙ ap₂ (λ p q. p ++ q) (edge_turned x 1 (leads b x t 1)) (edge_turned x 1 (leads b x (opposite t) 1))

  -- by the vertex from which one comes
  pub comes_from : (v : ℕ) → option_map (vertex_among (box b.sizes)) (leads b x (opposite t) 1) ≡ Some v → (v ≡ own_vertex → ⊥) → others ≡ (v, 1) ∷ []
  comes_from v e apart = grind (arith, led_to, leads, others-one)
