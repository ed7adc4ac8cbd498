-- Moves by a displacement that no side stops: of all lengths before they come home.
use Rattle.std.proofs.Common.{◌≡◌, ℕ, zero, suc, ◌+◌, ◌<◌, ◌≤◌, ℤ, pos, negsuc, ◌+ℤ◌, ◌*ℤ◌, Bool, true, false, not, cond, List, [], ◌∷◌, length, map, get_or, Option, Some, None, refl, sym, ap, subst, ◌∙◌, arith, true≢false}
use Rattle.std.specs.List.{range_with_len}
use Rattle.std.specs.Option.{is_some}
use Rattle.std.proofs.lemmas.Bool.{lt-ltb}
use Rattle.std.proofs.lemmas.Int.{ints}
use Rattle.sgb_vec.specs.Lexicographic.{IsBelow}
use Rattle.sgb_gen.specs.Boards.{BoardData}
use Rattle.sgb_moves.specs.MovedCoordinates.{parts_of, parts_put}
use Rattle.sgb_moves.specs.Moves.{coordinate_on, in_front, is_bit_set, is_elsewhere, place, sides_from_bit, sides_of}
use Rattle.sgb_gen.specs.Spans.{arc_along}
use Rattle.sgb_gen.specs.inner.BoardCounts.{comes_home, stops_at, stops_on}
use Rattle.sgb_gen.specs.inner.LocalBoards.{move_arc}
use Rattle.sgb_moves.specs.inner.Moves.{destination}
use Rattle.sgb_gen.proofs.BoardCountsHome.{home-to}
use Rattle.sgb_gen.proofs.BoardCountsLengths.{going}
use Rattle.sgb_gen.proofs.BoardWalks.{longest, moves_of}
use Rattle.sgb_moves.proofs.MovedCoordinates.{place_by_parts}
use Rattle.sgb_gen.proofs.StraightMoves.{arcs_to, on_sides}
use Rattle.sgb_moves.proofs.TurnedMoves.{side_itself}
use Rattle.sgb_gen.proofs.Vertices.{same_is}

-- a coordinate that its side does not stop
free_side : (w : Bool) (n a l : ℕ) (u : ℤ) → a < n → stops_on w u ≡ false → is_some (coordinate_on (record { size = n; wraps = w }) (pos a +ℤ pos l *ℤ u)) ≡ true
free_side true n a l u below free = refl
free_side false n a l (pos zero) below free =
    let stays : pos a +ℤ pos l *ℤ pos 0 ≡ pos a = omega (arith, ints) in
    ap (λ z. is_some (coordinate_on (record { size = n; wraps = false }) z)) stays ∙ ap is_some (side_itself false n a below)
free_side false n a l (pos (suc c)) below free = absurd (true≢false (sym (lt-ltb 0 (suc c) (omega arith)) ∙ free))
free_side false n a l (negsuc c) below free = absurd (true≢false (sym (lt-ltb 0 (suc c) (omega arith)) ∙ free))

both_some : (o : Option ℕ) (p : Option (List ℕ)) → is_some o ≡ true → is_some p ≡ true → is_some (in_front o p) ≡ true
both_some o p h g = grind (arith)

-- the place there exists
free_place : (k : ℕ) (sizes : List ℕ) (wrap : ℤ) (x : List ℕ) (t : List ℤ) (l : ℕ) → IsBelow x sizes → length t ≡ length sizes
    → ((i : ℕ) → i < length t → stops_on (is_bit_set wrap (k + i)) (get_or t i (pos 0)) ≡ false) → is_some (place (sides_from_bit k sizes wrap) x t l) ≡ true
free_place k [] wrap [] t l below long free = refl
free_place k [] wrap (a ∷ x) t l below long free = absurd below
free_place k (n ∷ sizes) wrap [] t l below long free = absurd below
free_place k (n ∷ sizes) wrap (a ∷ x) [] l below long free = absurd (omega (arith, long))
free_place k (n ∷ sizes) wrap (a ∷ x) (u ∷ t) l below long free =
    let here : stops_on (is_bit_set wrap k) u ≡ false = subst (λ j. stops_on (is_bit_set wrap j) u ≡ false) {x = k + 0} {y = k} (omega arith) (free 0 (omega arith)) in
    both_some _ _ (free_side (is_bit_set wrap k) n a l u below.0 here)
    (free_place (k + 1) sizes wrap x t l below.1 (omega (arith, long))
    (λ i h. subst (λ j. stops_on (is_bit_set wrap j) (get_or t i (pos 0)) ≡ false) {x = k + suc i} {y = k + 1 + i} (omega arith) (free (suc i) (omega (arith, h)))))

chosen_some : (stay : Bool) (y : List ℕ) (o : Option (List ℕ)) → is_some o ≡ true → o ≡ cond stay (Some y) None → o ≡ Some y
chosen_some true y o some is = is
chosen_some false y o some is = absurd (true≢false (sym some ∙ ap is_some is))

-- a place that is x is no place elsewhere
pub at_home : (x : List ℕ) (o : Option (List ℕ)) → o ≡ Some x → cond (is_elsewhere x o) o None ≡ None
at_home x o is = subst (λ p. cond (is_elsewhere x p) p None ≡ None) (sym is) (ap (λ c. cond (not c) (Some x) None) (same_is x))

module _ (b : BoardData) (x : List ℕ) (t : List ℤ) (below : IsBelow x b.sizes) (long : length t ≡ length b.sizes) (free : (k : ℕ) → k < length t → stops_at b.wrap t k ≡ false) where
  there : (l : ℕ) → place (sides_of b.sizes b.wrap) x t l ≡ Some (parts_put b.sizes b.wrap x l (parts_of t) x)
  there l =
      chosen_some _ _ (place (sides_of b.sizes b.wrap) x t l)
      (free_place 0 b.sizes b.wrap x t l below long (λ i h. subst (λ j. stops_on (is_bit_set b.wrap j) (get_or t i (pos 0)) ≡ false) {x = i} {y = 0 + i} (omega arith) (free i h)))
      (place_by_parts b.sizes b.wrap x t l below long)

  -- at home it stops
  home_none : (piece : ℤ) (l : ℕ) → comes_home (sides_of b.sizes b.wrap) piece t l ≡ true → destination (sides_of b.sizes b.wrap) piece x t l ≡ None
  home_none (pos p) l home = absurd (true≢false (sym home))
  home_none (negsuc p) l home = at_home x (place (sides_of b.sizes b.wrap) x t l) (home-to (sides_of b.sizes b.wrap) x t l (on_sides b x below) home)

  -- an arc for each length before that
  pub around_lengths : (n : ℕ) → n ≤ longest b
      → ((l : ℕ) → 0 < l → l ≤ n → comes_home (sides_of b.sizes b.wrap) b.piece t l ≡ false)
      → (n < longest b → comes_home (sides_of b.sizes b.wrap) b.piece t (n + 1) ≡ true)
      → map move_arc (moves_of b t x) ≡ map (arc_along b.sizes b.wrap x (parts_of t)) (range_with_len 1 n)
  around_lengths n most away end =
      arcs_to b x t n most
      (λ m some within. going (sides_of b.sizes b.wrap) b.piece x t m (on_sides b x below) (away m some within) ∙ there m)
      (λ less. home_none b.piece (n + 1) (end less))
