-- The edges that touch a vector by a displacement that leads onward, with no sorting: those from farther vertices first, and
-- then those from the vector itself, the shorter first.
use Rattle.std.proofs.Common.{◌≡◌, ℕ, ◌<◌, ℤ, false, true, List, [], ◌++◌, length, map, reverse, get_or, sym, ap, ◌∙◌, append-nil, rules}
use Rattle.std.specs.List.{Contains}
use Rattle.std.proofs.lemmas.List.Elements.{All-nil}
use Rattle.sgb_vec.specs.Boxes.{box}
use Rattle.sgb_vec.specs.Lexicographic.{IsBefore, IsBelow}
use Rattle.sgb_vec.proofs.FamilyLaws.{box_vectors_rise}
use Rattle.sgb_vec.proofs.Lists.{AllPairs-follows, AllPairs-none}
use Rattle.sgb_gen.specs.Boards.{BoardData}
use Rattle.sgb_gen.specs.inner.LocalBoards.{arcs_onward, move_arc, moves_by}
use Rattle.sgb_moves.specs.Moves.{Side, opposite, sides_of}
use Rattle.sgb_moves.specs.inner.Moves.{leads_onward}
use Rattle.sgb_moves.specs.VectorMoves.{Move}
use Rattle.sgb_gen.specs.VectorGraphs.{vertex_among}
use Rattle.sgb_gen.proofs.AroundStarts.{Falls, Leads, ahead, around_in_order, behind}
use Rattle.sgb_gen.proofs.MovesInOrder.{all_lead, lengths_rise, vertices_in_order}
use Rattle.sgb_gen.proofs.OnwardMoves.{back_earlier, farther_earlier, some_length}
use Rattle.sgb_gen.proofs.TouchingMoves.{below, vector_there}

module _ (b : BoardData) (t : List ℤ) (x : List ℕ) (there : Contains (box b.sizes) x) (long : length t ≡ length b.sizes) (onward : leads_onward b.wrap 0 t ≡ true) where
  abbrev sides : List Side
  sides = sides_of b.sizes b.wrap

  abbrev vectors : List (List ℕ)
  vectors = box b.sizes

  abbrev u : ℕ
  u = vertex_among (box b.sizes) x

  below_x : IsBelow x (map (λ s. s.size) (sides_of b.sizes b.wrap))
  below_x = below b t x there x there

  earlier_vertex : (v w : List ℕ) → Contains vectors v → Contains vectors w → IsBefore v w → vertex_among vectors v < vertex_among vectors w
  earlier_vertex v w = vertices_in_order vectors v w (box_vectors_rise b.sizes)

  -- the vertex behind x is less
  behind_less : (m : Move) → Leads b t x there (opposite t) m → vertex_among vectors m.to < u
  behind_less m lead = search (rules, earlier_vertex, vector_there, back_earlier, below_x, some_length, sides, opposite)

  -- the farther, the less
  farther_less : (m n : Move) → Leads b t x there (opposite t) m → Leads b t x there (opposite t) n → m.len < n.len → vertex_among vectors n.to < vertex_among vectors m.to
  farther_less m n lead_m lead_n less = search (rules, earlier_vertex, vector_there, farther_earlier, opposite)

  falls : Falls b t x there (behind b t x there)
  falls =
      AllPairs-follows (Leads b t x there (opposite t)) (λ m n. m.len < n.len) (λ m n. vertex_among vectors n.to < vertex_among vectors m.to) (behind b t x there)
      farther_less (all_lead sides b.piece (opposite t) x) (lengths_rise sides b.piece (opposite t) x)

  -- the arcs by these edges: those by the moves back turned round, and then those by the moves onward
  pub onward_in_order : arcs_onward false x (moves_by sides b.piece vectors t) ≡ reverse (map move_arc (behind b t x there)) ++ map move_arc (ahead b t x there)
  onward_in_order =
      around_in_order b t x there (behind b t x there) [] (sym (append-nil (behind b t x there)))
      (λ k d within. behind_less (get_or (behind b t x there) k d) (all_lead sides b.piece (opposite t) x k d within))
      (All-nil (λ (m : Move). u < vertex_among vectors m.to)) falls (AllPairs-none (λ (m n : Move). vertex_among vectors n.to < vertex_among vectors m.to))
      ∙ ap (λ arcs. reverse (map move_arc (behind b t x there)) ++ arcs) (append-nil (map move_arc (ahead b t x there)))
