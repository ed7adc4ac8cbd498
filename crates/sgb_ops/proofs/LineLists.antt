-- The earlier lines at each vertex: the edges to them are those of the line graph. And the lines come from the last vertex down.
use Rattle.sgb_vec.proofs.Common.{rules, ◌≡◌, ◌<◌, ◌≤◌, ◌+◌, ◌==◌, ℕ, zero, suc, Bool, true, false, not, ◌&&◌, cond, List, [], ◌∷◌, ◌++◌, map, take, reverse, length, append-nil, refl, sym, ap, subst, ◌∙◌, inl, inr, arith, All, filter, if◌then◌else◌, slice_index_or, slice_set, enumerate_from, range_with_len, cases_Bool, cases_eq, eq-eqb, ne_eqb, map-append, take_more, length-take-le, get_or-take, get_or_default, get_or-set_same, get_or-set_other, map-set, length-map, get_or-map, All-nil, All-cons, All-head, All-tail, All-map, All-filter, All-weaker, length-enumerate_from, get_or-enumerate_from, nat_tests}
use Rattle.std.proofs.Math.Bool.{and-false}
use Rattle.sgb_vec.proofs.Lists.{All-flat_map, filter-all, filter-none, made-append}
use Rattle.smallvec.specs.SmallVec.{SmallVec}
use Rattle.sgb_graph.specs.Graphs.{GraphData, chain_of}
use Rattle.sgb_graph.specs.declared.fields.Link.{Link}
use Rattle.sgb_ops.specs.Lines.{lines_of_graph}
use Rattle.sgb_graph.specs.Vertices.{order_of}
use Rattle.sgb_taken.specs.Taken.{taken}
use Rattle.sgb_ops.specs.inner.Lines.{DescendFrom, LeadsUp, events_to_numbers, no_line, events_to, line_of, share_vertex}
use Rattle.sgb_ops.specs.inner.LineLists.{counts, list_at, numbers_at, touches}
use Rattle.sgb_ops.specs.declared.line_graphs.line.Line.{Line}
use Rattle.sgb_ops.proofs.LineEvents.{lines_at, lines_below, lines_below-more, numbers_below}
use Rattle.sgb_ops.proofs.LineRuns.{events_of_places}
use Rattle.sgb_taken.proofs.Taking.{each_edge_once_leads_up}

-- the lines before a place fall to where the line there begins
abbrev pub FallTo : ℕ → List Line → ℕ → Type 0
FallTo top [] low = low ≤ top
FallTo top (line ∷ lines) low = (line.from ≤ top) × (line.from ≤ line.to) × (low ≤ line.from) × FallTo line.from lines low

low_below : (top : ℕ) (lines : List Line) (low : ℕ) → FallTo top lines low → low ≤ top
low_below top [] low falls = falls
low_below top (line ∷ lines) low falls = omega (arith, falls.0, falls.2)

fall_to : (top : ℕ) (lines : List Line) (i : ℕ) (d : Line) → i < length lines → DescendFrom top lines → All LeadsUp lines → FallTo top (take i lines) (slice_index_or lines i d).from
fall_to top [] i d within descend up = absurd (omega (arith, within))
fall_to top (line ∷ lines) zero d within descend up = descend.0
fall_to top (line ∷ lines) (suc i) d within descend up = search (rules, All-head, low_below, fall_to line.from lines i d (omega (arith, within)) descend.1 (All-tail LeadsUp line lines up))

-- the numbers of those that pass a test of lines, where the test of numbers tells the same
kept : (r pass : Line → Bool) (test : ℕ → Bool) (qs : List (ℕ × Line)) → All (λ q. test q.0 ≡ pass q.1) qs
    → filter test (map (λ q. q.0) (filter (λ q. r q.1) qs)) ≡ map (λ q. q.0) (filter (λ q. r q.1 && pass q.1) qs)
kept r pass test [] same = refl
kept r pass test (q ∷ qs) same = grind (arith, All-head, cases_Bool, kept r pass test qs (All-tail (λ (p : ℕ × Line). test p.0 ≡ pass p.1) q qs same))

-- a line is found by its number
by_number : (lines : List Line) (i : ℕ) → i ≤ length lines → All (λ (q : ℕ × Line). slice_index_or lines q.0 no_line ≡ q.1) (enumerate_from 0 (take i lines))
by_number lines i within = search (rules, length-take-le, length-enumerate_from, get_or-enumerate_from, get_or_default, get_or-take)

-- lines that begin at one vertex
all_begin : (f k : ℕ) (lines : List Line) → FallTo f lines f → All (λ (q : ℕ × Line). q.1.from ≡ f) (enumerate_from k lines)
all_begin f k [] falls = All-nil (λ (q : ℕ × Line). q.1.from ≡ f)
all_begin f k (line ∷ lines) falls =
    let same : line.from ≡ f = omega (arith, falls.0, falls.2) in
    grind (arith, All-cons, same, all_begin f (k + 1) lines (subst (λ top. FallTo top lines f) same falls.3))

-- at its end, and beginning elsewhere; at its beginning
abbrev at_end : Line → Line → Bool
at_end line x = touches line.to x && not (x.from == line.from)

abbrev at_beginning : Line → Line → Bool
at_beginning line x = touches line.from x && true

-- a line that begins later can share only the end
ends_elsewhere : (line x : Line) → line.from < x.from → x.from ≤ x.to → (share_vertex line x ≡ at_end line x) × (at_beginning line x ≡ false)
ends_elsewhere line x after up = grind (arith, nat_tests)

-- the earlier lines that share a vertex with a line: first those at its end, then those at its beginning
split : (line : Line) (top k : ℕ) (lines : List Line) → FallTo top lines line.from
    → filter (λ q. share_vertex line q.1) (enumerate_from k lines)
    ≡ filter (λ q. at_end line q.1) (enumerate_from k lines) ++ filter (λ q. at_beginning line q.1) (enumerate_from k lines)
split line top k [] falls = refl
split line top k (x ∷ lines) falls = elim (cases_eq x.from line.from) [
  | inl same ↦
      let f = line.from in
      let now : FallTo f (x ∷ lines) f = (omega (arith, same), falls.1, falls.2, falls.3) in
      let begun = all_begin f k (x ∷ lines) now in
      let Begins = λ (q : ℕ × Line). q.1.from ≡ f in
      let qs = enumerate_from k (x ∷ lines) in
      let all = filter-all (λ (q : ℕ × Line). share_vertex line q.1) qs (All-weaker Begins (λ q. share_vertex line q.1 ≡ true) (λ q e. rw (eq-eqb line.from q.1.from (sym e)) refl) qs begun) in
      let first = filter-none (λ (q : ℕ × Line). at_end line q.1) qs (All-weaker Begins (λ q. at_end line q.1 ≡ false) (λ q e. rw (eq-eqb q.1.from line.from e) (and-false (touches line.to q.1))) qs begun) in
      let second = filter-all (λ (q : ℕ × Line). at_beginning line q.1) qs (All-weaker Begins (λ q. at_beginning line q.1 ≡ true) (λ q e. rw (eq-eqb q.1.from line.from e) refl) qs begun) in
      all ∙ sym (ap (λ qs. qs ++ filter (λ q. at_beginning line q.1) (enumerate_from k (x ∷ lines))) first ∙ second)
  | inr other ↦
      let apart = ends_elsewhere line x (omega (arith, falls.2, other)) falls.1 in
      grind (arith, apart, split line x.from (k + 1) lines falls.3)
]

-- the event to the first number, where it counts
pub first_counted : (i j : ℕ) (b : Bool) (rest : List ℕ) → events_to_numbers i (cond b (j ∷ rest) rest) ≡ events_to_numbers i (if b then j ∷ [] else []) ++ events_to_numbers i rest
first_counted i j b rest = grind arith

-- the edges from a line, found by lists
pub edges_at : (top : ℕ) (lines : List Line) (i : ℕ) (line : Line) → i < length lines → line ≡ slice_index_or lines i no_line
    → DescendFrom top lines → All LeadsUp lines
    → events_to_numbers i (filter (counts true lines i) (numbers_at line.to (take i lines))) ++ events_to_numbers i (filter (counts false lines i) (numbers_at line.from (take i lines)))
    ≡ events_to false i line (take i lines)
edges_at top lines i line within is descend up =
    let before = take i lines in
    let falls : FallTo top before line.from = rw is (fall_to top lines i no_line within descend up) in
    let start = ap (λ (l : Line). l.from) is in
    let elsewhere = All-weaker (λ (q : ℕ × Line). slice_index_or lines q.0 no_line ≡ q.1) (λ (q : ℕ × Line). counts true lines i q.0 ≡ not (q.1.from == line.from)) (λ (q : ℕ × Line) e. ap (λ (l : Line). not (l.from == (slice_index_or lines i no_line).from)) e ∙ ap (λ (v : ℕ). not (q.1.from == v)) (sym start)) (enumerate_from 0 before) (by_number lines i (omega (arith, within))) in
    let first = kept (touches line.to) (λ x. not (x.from == line.from)) (counts true lines i) (enumerate_from 0 before) elsewhere in
    let second = kept (touches line.from) (λ x. true) (counts false lines i) (enumerate_from 0 before) (λ k d below. refl) in
    let whole = split line top 0 before falls in
    grind (arith, events_of_places, map-append, first, second, whole)

descend_on : (v top : ℕ) (links : List Link) (lines : List Line) → v ≤ top → DescendFrom v lines → DescendFrom top (map (line_of v) links ++ lines)
descend_on v top [] [] h descend = tt
descend_on v top [] (line ∷ lines) h descend = (omega (arith, h, descend.0), descend.1)
descend_on v top (l ∷ links) lines h descend = (h, descend_on v v links lines (omega arith) descend)

below_descend : (g : GraphData) (directed : Bool) (k : ℕ) → DescendFrom k (lines_below g directed k)
below_descend g directed zero = tt
below_descend g directed (suc k) =
    let next : suc k ≡ k + 1 = omega arith in
    subst (DescendFrom (suc k)) (sym (ap (lines_below g directed) next ∙ lines_below-more g directed k))
    (descend_on k (suc k) (taken directed g k) (lines_below g directed k) (omega arith) (below_descend g directed k))

pub lines_descend : (g : GraphData) (directed : Bool) → DescendFrom (order_of g) (lines_of_graph g directed)
lines_descend g directed = below_descend g directed (order_of g)

-- undirected, they lead up
pub lines_lead_up : (g : GraphData) (directed : Bool) → directed ≡ false → All LeadsUp (lines_of_graph g directed)
lines_lead_up g directed e =
    rw e
    (All-flat_map LeadsUp (lines_at g false) (reverse (range_with_len 0 (order_of g)))
    (λ k d h. All-map LeadsUp (line_of _) (taken false g _) (each_edge_once_leads_up _ (chain_of g _))))

-- one line more at a vertex
numbered_more : (k : ℕ) (lines : List Line) (line : Line) → enumerate_from k (lines ++ line ∷ []) ≡ enumerate_from k lines ++ (k + length lines, line) ∷ []
numbered_more k [] line = grind arith
numbered_more k (x ∷ lines) line = grind (arith, numbered_more (k + 1) lines line)

pub numbers_more : (w i : ℕ) (lines : List Line) (line : Line) → i < length lines → line ≡ slice_index_or lines i no_line
    → numbers_at w (take (i + 1) lines) ≡ numbers_at w (take i lines) ++ (if touches w line then i ∷ [] else [])
numbers_more w i lines line within is =
    let more : take (i + 1) lines ≡ take i lines ++ line ∷ [] = take_more lines i no_line within ∙ ap (λ l. take i lines ++ l ∷ []) (sym is) in
    let here : 0 + length (take i lines) ≡ i = omega (arith, length-take-le i lines (omega (arith, within))) in
    grind (arith, more, here, numbered_more, made-append)

-- the numbers are those of the lines before
pub numbers_within : (w i : ℕ) (lines : List Line) → i ≤ length lines → All (λ j. j < length lines) (numbers_at w (take i lines))
numbers_within w i lines within =
    let below = numbers_below (length lines) 0 (take i lines) (omega (arith, length-take-le i lines within, within)) in
    search (rules, All-map, All-filter, below)

-- what stands in one of the lists
pub listed : (lists : List (SmallVec ℕ)) (w : ℕ) (at : SmallVec ℕ) (numbers : List ℕ) → w < length lists → at ≡ slice_index_or lists w at → list_at lists w ≡ numbers → at.items ≡ numbers
listed lists w at numbers within value is = search (rules, get_or-map)

-- a line more on one of the lists
pub one_listed : (lists : List (SmallVec ℕ)) (w : ℕ) (was new : SmallVec ℕ) (entry : ℕ) (u : ℕ) → w < length lists
    → was ≡ slice_index_or lists w was → new.items ≡ was.items ++ entry ∷ []
    → list_at (slice_set lists w new) u ≡ list_at lists u ++ (if w == u then entry ∷ [] else [])
one_listed lists w was new entry u within value grown = search (rules, length-map, get_or-map, map-set, cases_eq, get_or-set_same, eq-eqb, ne_eqb, get_or-set_other, append-nil)
