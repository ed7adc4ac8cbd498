-- The lines that begin at one vertex, as a run.
use Rattle.sgb_vec.proofs.Common.{rules, ◌≡◌, ◌<◌, ◌≤◌, ◌+◌, ◌-◌, ◌==◌, ℕ, pos, true, not, nat_lt, List, [], ◌∷◌, map, length, set, get_or, refl, ap, ◌∙◌, arith, All, filter, slice_index, enumerate_from, range_with_len, cases_eq, lt-ltb, nat_tests, length-set, get_or-set_same, get_or-set_other, get_or_default, length-filter, count_by-le-length}
use Rattle.sgb_vec.proofs.Lists.{filter-none}
use Rattle.sgb_ops.specs.inner.Lines.{DescendFrom, LineWithin, events_to_numbers, events_to}
use Rattle.sgb_ops.specs.inner.LineRuns.{begin_at, begin_from}
use Rattle.sgb_ops.specs.declared.line_graphs.line.Line.{Line}

-- no more lines begin somewhere than there are
pub few_from : (w : ℕ) (lines : List Line) → begin_from w lines ≤ length lines
few_from w lines = grind (arith, length-filter, count_by-le-length)

pub few_at : (w : ℕ) (lines : List Line) → begin_at w lines ≤ length lines
few_at w lines = search (rules, length-filter, count_by-le-length)

-- those that begin at w or later begin at w, or at w + 1 or later
two_parts : (w : ℕ) (lines : List Line) → begin_from w lines ≡ begin_at w lines + begin_from (w + 1) lines
two_parts w [] = refl
two_parts w (line ∷ lines) = grind (arith, nat_tests, two_parts w lines)

-- no line begins past the vertices
none_past : (n : ℕ) (lines : List Line) → All (LineWithin n) lines → begin_from n lines ≡ 0
none_past n lines within =
    ap length (filter-none (λ (l : Line). not (nat_lt l.from n)) lines (λ k d h. ap not (lt-ltb _ n (within k d h).0)))

none_at_end : (n : ℕ) (lines : List Line) → All (LineWithin n) lines → begin_at n lines ≡ 0
none_at_end n lines within = omega (arith, none_past n lines within, two_parts n lines)

-- a table with the numbers of lines that begin at each vertex before w, and from w on of those that begin there or later
abbrev pub EndsFrom : ℕ → List Line → List ℕ → ℕ → Type 0
EndsFrom n lines ends w =
    (length ends ≡ n + 1)
    × ((u : ℕ) → u < w → slice_index ends u ≡ begin_at u lines)
    × ((u : ℕ) → w ≤ u → u ≤ n → slice_index ends u ≡ begin_from u lines)

-- at first none are summed up
pub ends_first : (n : ℕ) (lines : List Line) (ends : List ℕ) → All (LineWithin n) lines → length ends ≡ n + 1
    → ((u : ℕ) → u ≤ n → slice_index ends u ≡ begin_at u lines) → EndsFrom n lines ends n
ends_first n lines ends within size counts = search (rules, none_at_end, none_past)

-- two neighbours make the next sum
pub ends_sum : (n w : ℕ) (lines : List Line) (ends : List ℕ) (here next : ℕ) → 0 < w → w ≤ n → EndsFrom n lines ends w
    → here ≡ get_or ends (w - 1) here → next ≡ get_or ends (w - 1 + 1) next → here + next ≡ begin_from (w - 1) lines
ends_sum n w lines ends here next some few table is later = grind (arith, get_or_default, two_parts)

pub ends_more : (n w : ℕ) (lines : List Line) (ends : List ℕ) (here : ℕ) → 0 < w → w ≤ n → EndsFrom n lines ends w
    → here ≡ begin_from (w - 1) lines → EndsFrom n lines (set ends (w - 1) here) (w - 1)
ends_more n w lines ends here some few table is = search (rules, length-set, get_or-set_other, cases_eq, get_or-set_same)

-- a number read from the whole table
pub ends_read : (n w : ℕ) (lines : List Line) (ends : List ℕ) (number : ℕ) → w ≤ n → length ends ≡ n + 1
    → ((u : ℕ) → u ≤ n → slice_index ends u ≡ begin_from u lines) → number ≡ get_or ends w number → number ≡ begin_from w lines
ends_read n w lines ends number low size table is = is ∙ (get_or_default ends w number 0 (omega (arith, size, low)) ∙ table w low)

-- nor above the first
none_above : (w top : ℕ) (lines : List Line) → top < w → DescendFrom top lines → begin_from w lines ≡ 0
none_above w top [] above descend = refl
none_above w top (line ∷ lines) above descend = grind (arith, nat_tests, none_above w line.from lines (omega (arith, above, descend.0)) descend.1)

-- those that begin at w have the numbers after those of the lines that begin later
run : (w top k : ℕ) (lines : List Line) → DescendFrom top lines
    → map (λ q. q.0) (filter (λ q. q.1.from == w) (enumerate_from k lines)) ≡ range_with_len (k + begin_from (w + 1) lines) (begin_at w lines)
run w top k [] descend = refl
run w top k (line ∷ lines) descend =
    let next = run w line.from (k + 1) lines descend.1 in
    let none = none_above (w + 1) line.from lines in
    let past = none_above w line.from lines in
    grind (arith, nat_tests, two_parts, next, none, past)

-- events to lines, by their numbers
pub events_of_places : (i : ℕ) (qs : List (ℕ × Line)) → events_to_numbers i (map (λ q. q.0) qs) ≡ map (λ q. record { from = i; to = q.0; len = pos 1 }) qs
events_of_places i [] = refl
events_of_places i (q ∷ qs) = grind (arith, events_of_places i qs)

-- the arcs from a line are those to the run at its end
pub run_events : (top : ℕ) (lines : List Line) (i : ℕ) (line : Line) (first end : ℕ) → DescendFrom top lines
    → first ≡ begin_from (line.to + 1) lines → end ≡ begin_from line.to lines
    → events_to_numbers i (range_with_len first (end - first)) ≡ events_to true i line lines
run_events top lines i line first end descend begins ends =
    let w = line.to in
    let start : first ≡ 0 + begin_from (w + 1) lines = omega (arith, begins) in
    let count : end - first ≡ begin_at w lines = omega (arith, begins, ends, two_parts w lines) in
    rw (count, start, ← run w top 0 lines descend) (events_of_places i (filter (λ q. q.1.from == w) (enumerate_from 0 lines)))
