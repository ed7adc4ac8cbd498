-- The lengths of the moves that start at a vector itself, within a range.
use Rattle.std.proofs.Common.{◌≡◌, ℕ, zero, suc, ◌+◌, ◌-◌, ◌<◌, ◌≤◌, min, ℤ, nat_abs, false, cond, List, [], ◌∷◌, ◌++◌, map, refl, sym, ap, ◌∙◌, inl, inr, arith, append-nil}
use Rattle.std.specs.List.{filter, range_with_len}
use Rattle.std.proofs.lemmas.Bool.{cases_Bool, cases_lt}
use Rattle.sgb_gen.specs.Boards.{BoardData}
use Rattle.sgb_gen.specs.LocalLists.{LocalArc}
use Rattle.sgb_moves.specs.MovedCoordinates.{parts_of}
use Rattle.sgb_gen.specs.Spans.{arc_along}
use Rattle.sgb_gen.specs.inner.Spans.{arcs_along}
use Rattle.sgb_moves.specs.declared.start_ranges.StartRange.{StartRange}
use Rattle.sgb_gen.specs.inner.LocalBoards.{move_arc, own_starts}
use Rattle.sgb_moves.specs.inner.Starts.{is_within}
use Rattle.sgb_gen.specs.inner.StraightLists.{arcs_from}
use Rattle.sgb_gen.proofs.BoardWalks.{moves_of, not_one, one_passing}
use Rattle.sgb_gen.proofs.Coordinates.{map-each}
use Rattle.sgb_gen.proofs.StartRanges.{within_is}

-- the starts at vertex u of the lengths from l up to n
abbrev pub lengths_left : ℕ → ℕ → ℕ → List (ℕ × ℕ)
lengths_left u n l = map (λ k. (u, k)) (range_with_len l (n + 1 - l))

-- where the moves have all lengths up to n these are theirs
pub all_lengths : (b : BoardData) (t : List ℤ) (x : List ℕ) (n u : ℕ) → arcs_from b x t ≡ arcs_along b.sizes b.wrap x (parts_of t) n → own_starts u (moves_of b t x) ≡ lengths_left u n 1
all_lengths b t x n u all =
    let start : LocalArc → ℕ × ℕ = λ a. (u, nat_abs a.len) in
    sym (map-each start move_arc (λ m. (u, m.len)) (λ m. refl) (moves_of b t x))
    ∙ ap (map start) all
    ∙ map-each start (arc_along b.sizes b.wrap x (parts_of t)) (λ k. (u, k)) (λ k. refl) (range_with_len 1 n)
    ∙ ap (λ k. map (λ k. (u, k)) (range_with_len 1 k)) {x = n} {y = n + 1 - 1} (omega arith)

module _ (u n : ℕ) (r : StartRange) where
  abbrev pub within_left : ℕ → List (ℕ × ℕ)
  within_left l = filter (is_within r) (lengths_left u n l)

  lengths_next : (l : ℕ) → l ≤ n → range_with_len l (n + 1 - l) ≡ l ∷ range_with_len (l + 1) (n + 1 - (l + 1))
  lengths_next l few =
      let more : n + 1 - l ≡ suc (n + 1 - (l + 1)) = omega (arith, few) in
      ap (range_with_len l) more

  lengths_end : (l : ℕ) → n < l → lengths_left u n l ≡ []
  lengths_end l past =
      let none : n + 1 - l ≡ 0 = omega (arith, past) in
      ap (λ k. map (λ k. (u, k)) (range_with_len l k)) none

  -- one that is not within the range
  one_out : (l : ℕ) → is_within r (u, l) ≡ false → within_left l ≡ within_left (l + 1)
  one_out l out = elim (cases_lt n l) [
    | inl past ↦ ap (filter (is_within r)) (lengths_end l past ∙ sym (lengths_end (l + 1) (omega (arith, past))))
    | inr few ↦ not_one (is_within r) (u, l) (lengths_left u n l) (lengths_left u n (l + 1)) (ap (map (λ k. (u, k))) (lengths_next l few)) out
  ]

  some_out : (d l : ℕ) → ((k : ℕ) → l ≤ k → k < l + d → is_within r (u, k) ≡ false) → within_left l ≡ within_left (l + d)
  some_out zero l out = ap within_left {x = l} {y = l + 0} (omega arith)
  some_out (suc d) l out =
      some_out d l (λ k low high. out k low (omega (arith, high)))
      ∙ one_out (l + d) (out (l + d) (omega arith) (omega arith))
      ∙ ap within_left {x = l + d + 1} {y = l + suc d} (omega arith)

  out_below : (k : ℕ) → k ≤ r.from → is_within r (u, k) ≡ false
  out_below k low = elim (cases_Bool (is_within r (u, k))) [
    | inl within ↦ absurd (omega (arith, low, (within_is r (u, k) within).2))
    | inr out ↦ out
  ]

  out_above : (k : ℕ) → r.to < k → is_within r (u, k) ≡ false
  out_above k high = elim (cases_Bool (is_within r (u, k))) [
    | inl within ↦ absurd (omega (arith, high, (within_is r (u, k) within).3))
    | inr out ↦ out
  ]

  -- none is before the range
  pub begun : within_left 1 ≡ within_left (r.from + 1)
  begun = some_out r.from 1 (λ k low high. out_below k (omega (arith, high))) ∙ ap within_left {x = 1 + r.from} {y = r.from + 1} (omega arith)

  -- nor behind it, or behind the last length
  pub ended : (l : ℕ) → min r.to n < l → within_left l ≡ []
  ended l past = elim (cases_lt r.to l) [
    | inl behind ↦ some_out (n + 1) l (λ k low high. out_above k (omega (arith, behind, low))) ∙ ap (filter (is_within r)) (lengths_end (l + (n + 1)) (omega arith))
    | inr before ↦ ap (filter (is_within r)) (lengths_end l (omega (arith, before, past)))
  ]

  -- one more, if it is within it
  pub one_put : (l : ℕ) (done new whole : List (ℕ × ℕ)) → l ≤ n → done ++ within_left l ≡ whole → new ≡ done ++ cond (is_within r (u, l)) ((u, l) ∷ []) [] → new ++ within_left (l + 1) ≡ whole
  one_put l done new whole few h added =
      one_passing (is_within r) (λ k. (u, k)) done new whole l (range_with_len l (n + 1 - l)) (range_with_len (l + 1) (n + 1 - (l + 1))) h (lengths_next l few) added

  pub all_put : (l : ℕ) (done whole : List (ℕ × ℕ)) → min r.to n < l → done ++ within_left l ≡ whole → done ≡ whole
  all_put l done whole past h = sym (append-nil done) ∙ sym (ap (λ ss. done ++ ss) (ended l past)) ∙ h
