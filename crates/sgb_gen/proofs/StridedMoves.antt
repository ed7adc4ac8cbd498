-- Moves by a displacement that lead by equal strides, from one vertex.
use Rattle.std.proofs.Common.{◌≡◌, ◌∙◌, ℕ, zero, suc, ◌+◌, ◌-◌, ◌*◌, ◌<◌, ◌≤◌, ℤ, List, [], ◌∷◌, ◌++◌, length, map, Some, None, sym, ap, arith}
use Rattle.std.specs.Prelude.{option_map}
use Rattle.std.specs.List.{range_with_len, slice_get}
use Rattle.sgb_vec.specs.Boxes.{box, product_of}
use Rattle.sgb_vec.specs.Lexicographic.{IsBelow}
use Rattle.sgb_gen.specs.Boards.{BoardData}
use Rattle.sgb_moves.specs.MovedCoordinates.{parts_of, parts_put}
use Rattle.sgb_gen.specs.VectorGraphs.{event_among, vertex_among}
use Rattle.sgb_gen.specs.inner.StridedMoves.{IsFarthest, LeadsOn, event_of_stride, events_of_stride}
use Rattle.sgb_gen.specs.inner.StraightLists.{NeverHome}
use Rattle.sgb_gen.proofs.BoardEvents.{events_from, events_left, events_left-all, events_left-next}
use Rattle.sgb_gen.proofs.BoardWalks.{leads, longest}
use Rattle.sgb_gen.proofs.StraightMoves.{leads_on, leads_out, left-past, onward_away}
use Rattle.sgb_gen.proofs.StrideTips.{ahead_at, ahead_within, flat_board}
use Rattle.sgb_gen.proofs.Vertices.{below_in_box}

-- ---- the moves of a vertex

module _ (b : BoardData) (x : List ℕ) (t : List ℤ) (u s n : ℕ) (long : length t ≡ length b.sizes) (on : LeadsOn b t s) (there : slice_get (box b.sizes) u ≡ Some x) (far : IsFarthest b x (parts_of t) n) where
  pub below : IsBelow x b.sizes
  below = below_in_box b.sizes x u there

  away : NeverHome b x t
  away l some = onward_away b t long on.onward x l below some

  led : (m : ℕ) → 0 < m → m ≤ n → leads b x t m ≡ Some (parts_put b.sizes b.wrap x m (parts_of t) x)
  led m some few = leads_on b x t below long away m some (far.stay m few)

  ended : n < longest b → leads b x t (n + 1) ≡ None
  ended more = leads_out b x t below long away (n + 1) (omega arith) (far.end more)

  tip_at : (m : ℕ) → 0 < m → m ≤ n → vertex_among (box b.sizes) (parts_put b.sizes b.wrap x m (parts_of t) x) ≡ u + m * s
  tip_at m some few = ahead_at b x u n below there far.within t s long (flat_board b x t on.flat) (λ l more less. far.stay l less) on.stride m some few

  pub tips_within : (m : ℕ) → 0 < m → m ≤ n → u + m * s < product_of b.sizes
  tips_within m some few = ahead_within b x u n below there far.within t s long (flat_board b x t on.flat) (λ l more less. far.stay l less) on.stride m some few

  events_on : (k l : ℕ) → 0 < l → l + k ≡ n + 1 → events_left b t x l ≡ map (event_of_stride u s) (range_with_len l k)
  events_on zero l some sum = ap (map (event_among (box b.sizes))) (left-past b x t n far.within led ended l (omega (arith, sum)))
  events_on (suc k) l some sum =
      events_left-next b t x l u (u + l * s) (omega (arith, sum, far.within)) there
      (ap (option_map (vertex_among (box b.sizes))) (led l some (omega (arith, sum))) ∙ ap Some (tip_at l some (omega (arith, sum))))
      ∙ ap (λ es. event_of_stride u s l ∷ es) (events_on k (l + 1) (omega arith) (omega (arith, sum)))

  pub stride_events : events_from b t x ≡ events_of_stride u s n
  stride_events = sym (events_left-all b t x) ∙ events_on n 1 (omega arith) (omega arith)

-- at first all moves of a vertex are left
pub all_of_stride : (u s n : ℕ) → map (event_of_stride u s) (range_with_len 1 (n - 0)) ≡ events_of_stride u s n
all_of_stride u s n =
    let all : n - 0 ≡ n = omega arith in
    ap (λ m. map (event_of_stride u s) (range_with_len 1 m)) all

-- then the first of those that are left
pub first_of_stride : (u s k n : ℕ) → k < n
    → map (event_of_stride u s) (range_with_len (k + 1) (n - k)) ≡ (event_of_stride u s (k + 1) ∷ []) ++ map (event_of_stride u s) (range_with_len (k + 1 + 1) (n - (k + 1)))
first_of_stride u s k n less =
    let one : n - k ≡ suc (n - (k + 1)) = omega (arith, less) in
    ap (λ m. map (event_of_stride u s) (range_with_len (k + 1) m)) one

-- and at last none are left
pub none_of_stride : (u s k n : ℕ) → n ≤ k → map (event_of_stride u s) (range_with_len (k + 1) (n - k)) ≡ []
none_of_stride u s k n most =
    let none : n - k ≡ 0 = omega (arith, most) in
    ap (λ m. map (event_of_stride u s) (range_with_len (k + 1) m)) none
