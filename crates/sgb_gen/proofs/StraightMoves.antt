-- Moves from a vector that never come home, of as many lengths as the moved coordinates stay on the board.
use Rattle.std.proofs.Common.{◌≡◌, ◌≢◌, ℕ, zero, suc, ◌+◌, ◌<◌, ◌≤◌, ℤ, true, false, cond, List, [], length, map, Some, None, sym, ap, subst, ◌∙◌, arith, rules}
use Rattle.std.specs.Cmp.Lexicographic.{bytes_decides}
use Rattle.std.proofs.lemmas.Bool.{cases_Bool, cases_lt}
use Rattle.std.specs.List.{range_with_len}
use Rattle.sgb_vec.specs.Lexicographic.{IsBelow}
use Rattle.sgb_gen.specs.Boards.{BoardData}
use Rattle.sgb_moves.specs.Moves.{Side, opposite, place, sides_of}
use Rattle.sgb_moves.specs.VectorMoves.{same_vector}
use Rattle.sgb_gen.specs.LocalLists.{LocalArc}
use Rattle.sgb_gen.specs.inner.LocalBoards.{move_arc}
use Rattle.sgb_moves.specs.inner.Moves.{destination, leads_onward}
use Rattle.sgb_moves.specs.MovedCoordinates.{parts_of, parts_put}
use Rattle.sgb_gen.specs.Spans.{arc_along}
use Rattle.sgb_moves.specs.inner.MovedCoordinates.{parts_stay}
use Rattle.sgb_gen.specs.inner.StraightLists.{IsLeaper, NeverHome}
use Rattle.sgb_gen.proofs.BoardWalks.{leads, left-all, left-next, left-none, left-out, longest, moves_left, moves_of}
use Rattle.sgb_moves.proofs.MovedCoordinates.{place_by_parts}
use Rattle.sgb_gen.proofs.OnwardMoves.{back_earlier, onward_elsewhere}
use Rattle.sgb_gen.proofs.OrderedLists.{before_none}
use Rattle.sgb_gen.proofs.Reaches.{sizes_of_sides}

-- the arc to the place at a length
abbrev arc_placed : BoardData → List ℕ → List ℤ → ℕ → LocalArc
arc_placed b x t l = arc_along b.sizes b.wrap x (parts_of t) l

-- where moves lead up to a length, and not one further, there is an arc for each length
module _ (b : BoardData) (x : List ℕ) (t : List ℤ) (n : ℕ) (most : n ≤ longest b) (on : (m : ℕ) → 0 < m → m ≤ n → leads b x t m ≡ Some (parts_put b.sizes b.wrap x m (parts_of t) x))
    (end : n < longest b → leads b x t (n + 1) ≡ None) where
  pub left-past : (l : ℕ) → l ≡ n + 1 → moves_left b t x l ≡ []
  left-past l next = grind (arith, moves_left, cases_lt, longest, left-out, left-none)

  arcs_on : (k l : ℕ) → 0 < l → l + k ≡ n + 1 → map move_arc (moves_left b t x l) ≡ map (arc_placed b x t) (range_with_len l k)
  arcs_on zero l some sum = ap (map move_arc) (left-past l (omega (arith, sum)))
  arcs_on (suc k) l some sum = grind (arith, left-next, on, arc_placed, arcs_on k (l + 1) (omega arith) (omega (arith, sum)))

  pub arcs_to : map move_arc (moves_of b t x) ≡ map (arc_placed b x t) (range_with_len 1 n)
  arcs_to = ap (map move_arc) (sym (left-all b t x)) ∙ arcs_on n 1 (omega arith) (omega arith)

module _ (b : BoardData) (x : List ℕ) (t : List ℤ) (below : IsBelow x b.sizes) (long : length t ≡ length b.sizes) (away : NeverHome b x t) where
  pub leads_on : (l : ℕ) → 0 < l → parts_stay b.sizes b.wrap x l (parts_of t) ≡ true → leads b x t l ≡ Some (parts_put b.sizes b.wrap x l (parts_of t) x)
  leads_on l some stay = grind (arith, place_by_parts)

  pub leads_out : (l : ℕ) → 0 < l → parts_stay b.sizes b.wrap x l (parts_of t) ≡ false → leads b x t l ≡ None
  leads_out l some out = grind (arith, place_by_parts)

  -- ---- the arcs by all of them

  -- one for each length up to the farthest one
  pub straight_arcs : (n : ℕ) → n ≤ longest b
      → ((m : ℕ) → m ≤ n → parts_stay b.sizes b.wrap x m (parts_of t) ≡ true)
      → (n < longest b → parts_stay b.sizes b.wrap x (n + 1) (parts_of t) ≡ false)
      → map move_arc (moves_of b t x) ≡ map (arc_placed b x t) (range_with_len 1 n)
  straight_arcs n most on end = arcs_to b x t n most (λ m some within. leads_on m some (on m within)) (λ less. leads_out (n + 1) (omega arith) (end less))

-- ---- when a piece never comes home

pub destination_away : (sides : List Side) (piece : ℤ) (x : List ℕ) (t : List ℤ) (l : ℕ) → place sides x t l ≢ Some x → destination sides piece x t l ≡ place sides x t l
destination_away sides piece x t l away = search (rules, cases_Bool, cond, same_vector, bytes_decides)

pub on_sides : (b : BoardData) (x : List ℕ) → IsBelow x b.sizes → IsBelow x (map (λ s. s.size) (sides_of b.sizes b.wrap))
on_sides b x below = subst (IsBelow x) (sym (sizes_of_sides 0 b.sizes b.wrap)) below

module _ (b : BoardData) (t : List ℤ) (long : length t ≡ length b.sizes) (onward : leads_onward b.wrap 0 t ≡ true) where
  -- a displacement that leads onward does not lead home, nor does its opposite
  pub onward_away : (x : List ℕ) (l : ℕ) → IsBelow x b.sizes → 0 < l → leads b x t l ≡ place (sides_of b.sizes b.wrap) x t l
  onward_away x l below some = grind (arith, destination_away, onward_elsewhere, on_sides)

  pub back_away : (x : List ℕ) (l : ℕ) → IsBelow x b.sizes → 0 < l → leads b x (opposite t) l ≡ place (sides_of b.sizes b.wrap) x (opposite t) l
  back_away x l below some =
      destination_away (sides_of b.sizes b.wrap) b.piece x (opposite t) l
      (λ home. before_none x (back_earlier b.sizes b.wrap x t l x (on_sides b x below) long onward some home))

-- a leaper leads to each place there is
pub leaps_there : (b : BoardData) → IsLeaper b → (x : List ℕ) (t : List ℤ) → NeverHome b x t
leaps_there b leaper x t l some = ap (λ p. destination (sides_of b.sizes b.wrap) p x t l) leaper
