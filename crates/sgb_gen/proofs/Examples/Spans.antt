-- Arcs of a board's vertex by one displacement, evaluated.
use Rattle.std.specs.Prelude.{◌≡◌, ◌+◌, ◌*◌, ℕ, ℤ, pos, negsuc, true, false, List, [], ◌∷◌, None, Some, refl, unwrap_or}
use Rattle.std.proofs.Common.{zero, suc, ap, arith, subst}
use Rattle.sgb_vec.specs.Boxes.{box}
use Rattle.sgb_moves.specs.MovedCoordinates.{part_at, parts_of, parts_put}
use Rattle.sgb_gen.specs.Spans.{FallBy, SpanData, arc_along, arcs_of_span}
use Rattle.sgb_gen.specs.VectorGraphs.{vertex_among}
use Rattle.sgb_gen.specs.inner.Spans.{arcs_along, lengths_between}

-- a board of 5 by 7, no side of which wraps around, and its vertex 1.3
abbrev sizes : List ℕ
sizes = 5 ∷ 7 ∷ []

abbrev x : List ℕ
x = 1 ∷ 3 ∷ []

-- a displacement that moves the second coordinate alone, back
pub moved_alone : parts_of (pos 0 ∷ negsuc 1 ∷ []) ≡ (1, negsuc 1) ∷ []
moved_alone = refl

-- one that moves both, with their signs
pub moved_both : parts_of (pos 1 ∷ negsuc 0 ∷ []) ≡ (0, pos 1) ∷ (1, negsuc 0) ∷ []
moved_both = refl

-- one that moves the second and the third
pub moved_later : parts_of (pos 0 ∷ pos 3 ∷ negsuc 0 ∷ []) ≡ (1, pos 3) ∷ (2, negsuc 0) ∷ []
moved_later = refl

-- twice as far at length 2, counted from the vertex
pub led_to : part_at sizes (pos 0) x 2 (0, pos 1) ≡ Some 3
led_to = refl

pub off_the_board : part_at sizes (pos 0) x 2 (0, negsuc 0) ≡ None
off_the_board = refl

-- a side that wraps around leads on from its other end: bit 0 is that of the first
pub led_around : part_at sizes (pos 1) x 2 (0, negsuc 0) ≡ Some 4
led_around = refl

pub put_in_place : parts_put sizes (pos 0) x 2 ((0, pos 1) ∷ (1, negsuc 0) ∷ []) x ≡ 3 ∷ 1 ∷ []
put_in_place = refl

-- a coordinate that the board or the vertex has not: of size 0, at 0
pub no_such_side : (part_at sizes (pos 0) x 0 (2, pos 1) ≡ None) × (part_at (5 ∷ 7 ∷ 9 ∷ []) (pos 0) x 1 (2, pos 1) ≡ Some 1)
no_such_side = (refl, refl)

-- 0 where a coordinate leads nowhere
pub put_off_the_board : parts_put sizes (pos 0) x 2 ((0, negsuc 0) ∷ []) x ≡ 0 ∷ 3 ∷ []
put_off_the_board = refl

pub arc_of_a_length : arc_along sizes (pos 0) x ((1, pos 1) ∷ []) 3 ≡ record { tip = 1 ∷ 6 ∷ []; len = pos 3 }
arc_of_a_length = refl

pub shortest_first : arcs_along sizes (pos 0) x ((1, pos 1) ∷ []) 2 ≡ record { tip = 1 ∷ 4 ∷ []; len = pos 1 } ∷ record { tip = 1 ∷ 5 ∷ []; len = pos 2 } ∷ []
shortest_first = refl

-- lengths above one up to another one, from the shortest or from the longest on
pub from_the_shortest : lengths_between true 1 4 ≡ 2 ∷ 3 ∷ 4 ∷ []
from_the_shortest = refl

pub from_the_longest : lengths_between false 0 3 ≡ 3 ∷ 2 ∷ 1 ∷ []
from_the_longest = refl

pub none_between : lengths_between true 2 2 ≡ []
none_between = refl

-- the arcs of a span, in the order of its lengths
abbrev span : List (ℕ × ℤ) → List ℕ → SpanData
span parts lengths = record {
  sizes = sizes;
  wrap = pos 0;
  x = x;
  parts = parts;
  lengths = lengths;
}

pub span_ahead : arcs_of_span (span ((1, pos 1) ∷ []) (2 ∷ 1 ∷ [])) ≡ record { tip = 1 ∷ 5 ∷ []; len = pos 2 } ∷ record { tip = 1 ∷ 4 ∷ []; len = pos 1 } ∷ []
span_ahead = refl

pub span_back : arcs_of_span (span ((1, negsuc 0) ∷ []) (1 ∷ 2 ∷ [])) ≡ record { tip = 1 ∷ 2 ∷ []; len = pos 1 } ∷ record { tip = 1 ∷ 1 ∷ []; len = pos 2 } ∷ []
span_back = refl

-- no lengths, no arcs
pub span_of_nothing : arcs_of_span (span ((1, pos 1) ∷ []) []) ≡ []
span_of_nothing = refl

-- around the first side, which wraps around
pub span_around : arcs_of_span (record { sizes = 5 ∷ 7 ∷ []; wrap = pos 1; x = 1 ∷ 3 ∷ []; parts = (0, negsuc 0) ∷ []; lengths = 2 ∷ [] }) ≡ record { tip = 4 ∷ 3 ∷ []; len = pos 2 } ∷ []
span_around = refl

-- from vertex 10 two steps ahead and then one lead to 12 and 11
pub falls_ahead : FallBy (span ((1, pos 1) ∷ []) (2 ∷ 1 ∷ [])) 12 1
unfolding box
falls_ahead zero l at = subst (λ m. vertex_among (box sizes) (parts_put sizes (pos 0) x m ((1, pos 1) ∷ []) x) + 0 * 1 ≡ 12) (ap (λ o. unwrap_or o 0) at) refl
falls_ahead (suc zero) l at = subst (λ m. vertex_among (box sizes) (parts_put sizes (pos 0) x m ((1, pos 1) ∷ []) x) + 1 * 1 ≡ 12) (ap (λ o. unwrap_or o 0) at) refl
falls_ahead (suc (suc k)) l at = absurd (cc)

-- and one step back to 9, by whatever stride
pub falls_back : FallBy (span ((1, negsuc 0) ∷ []) (1 ∷ [])) 9 7
unfolding box
falls_back zero l at = subst (λ m. vertex_among (box sizes) (parts_put sizes (pos 0) x m ((1, negsuc 0) ∷ []) x) + 0 * 7 ≡ 9) (ap (λ o. unwrap_or o 0) at) refl
falls_back (suc k) l at = absurd (cc)

-- not from another vertex, nor by another stride
pub not_from_11 : FallBy (span ((1, pos 1) ∷ []) (2 ∷ 1 ∷ [])) 11 1 → ⊥
unfolding box
not_from_11 falls = let e : 12 ≡ 11 = falls 0 2 refl in absurd (omega (arith, e))

pub not_by_2 : FallBy (span ((1, pos 1) ∷ []) (2 ∷ 1 ∷ [])) 12 2 → ⊥
unfolding box
not_by_2 falls = let e : 13 ≡ 12 = falls 1 1 refl in absurd (omega (arith, e))
