-- The lines of a graph and the events between them, as they are found one by one.
use Rattle.sgb_vec.proofs.Common.{rules, ◌≡◌, ◌<◌, ◌≤◌, ◌+◌, ℕ, suc, Bool, List, [], ◌∷◌, ◌++◌, map, reverse, length, refl, sym, ap, ◌∙◌, arith, All, flat_map, range_with_len, enumerate_from, reverse-append, All-nil, All-cons, All-map, All-weaker}
use Rattle.sgb_graph.specs.Graphs.{GraphData}
use Rattle.sgb_graph.specs.Events.{Event}
use Rattle.sgb_graph.specs.declared.fields.Link.{Link}
use Rattle.sgb_ops.specs.Lines.{lines_of_graph}
use Rattle.sgb_ops.specs.inner.Lines.{LineWithin, events_to, line_of, lines_for}
use Rattle.sgb_graph.specs.Vertices.{order_of}
use Rattle.sgb_taken.specs.Taken.{taken}
use Rattle.sgb_ops.specs.declared.line_graphs.line.Line.{Line}
use Rattle.sgb_ops.specs.inner.Sources.{HasTips, bare}
use Rattle.sgb_ops.proofs.ListedEvents.{listed_tips}
use Rattle.sgb_vec.proofs.Lists.{All-flat_map, All-reverse, range-more, range-within}

-- the numbers below k + 1, k first
pub below_more : (k : ℕ) → reverse (range_with_len 0 (suc k)) ≡ k ∷ reverse (range_with_len 0 k)
below_more k =
    let more : suc k ≡ k + 1 = omega arith in
    let last : 0 + k ≡ k = omega arith in
    ap (λ n. reverse (range_with_len 0 n)) more ∙ ap reverse (range-more 0 k) ∙ (reverse-append (range_with_len 0 k) ((0 + k) ∷ []) ∙ ap (λ (j : ℕ). j ∷ reverse (range_with_len 0 k)) last)

-- the lines that begin at v
abbrev pub lines_at : GraphData → Bool → ℕ → List Line
lines_at g directed v = map (line_of v) (taken directed g v)

-- they depend on tips alone
of_bare : (v : ℕ) (links : List Link) → map (line_of v) (map bare links) ≡ map (line_of v) links
of_bare v [] = refl
of_bare v (l ∷ links) = ap (λ lines. line_of v l ∷ lines) (of_bare v links)

pub same_lines : (v : ℕ) (links others : List Link) → map bare links ≡ map bare others → map (line_of v) links ≡ map (line_of v) others
same_lines v links others e = sym (of_bare v links) ∙ (ap (map (line_of v)) e ∙ of_bare v others)

-- the lines that begin below k
abbrev pub lines_below : GraphData → Bool → ℕ → List Line
lines_below g directed k = flat_map (lines_at g directed) (reverse (range_with_len 0 k))

-- those of the last of these vertices come first
pub lines_below-more : (g : GraphData) (directed : Bool) (k : ℕ) → lines_below g directed (k + 1) ≡ lines_at g directed k ++ lines_below g directed k
lines_below-more g directed k = grind (arith, below_more)

-- their ends are vertices
lines_at_within : (g : GraphData) (directed : Bool) (v : ℕ) → HasTips g → v < order_of g → All (LineWithin (order_of g)) (lines_at g directed v)
lines_at_within g directed v tips below =
    All-map (LineWithin (order_of g)) (line_of v) (taken directed g v) (λ k d h. (below, listed_tips directed g v tips below k d h))

-- the vertices from the last one down
pub vertices_down : (n : ℕ) → All (λ v. v < n) (reverse (range_with_len 0 n))
vertices_down n = All-reverse (λ v. v < n) (range_with_len 0 n) (All-weaker (λ v. (0 ≤ v) × (v < 0 + n)) (λ v. v < n) (λ v p. omega (arith, p.1)) (range_with_len 0 n) (range-within 0 n))

pub lines_within : (g : GraphData) (directed : Bool) → HasTips g → All (LineWithin (order_of g)) (lines_of_graph g directed)
lines_within g directed tips = search (rules, All-flat_map, lines_at_within, vertices_down)

-- the numbers of lines that have those from j on
pub numbers_below : (n j : ℕ) (others : List Line) → j + length others ≤ n → All (λ (q : ℕ × Line). q.0 < n) (enumerate_from j others)
numbers_below n j [] few = All-nil (λ (q : ℕ × Line). q.0 < n)
numbers_below n j (other ∷ others) few =
    All-cons (λ (q : ℕ × Line). q.0 < n) (j, other) (enumerate_from (j + 1) others) (omega (arith, few)) (numbers_below n (j + 1) others (omega (arith, few)))

-- the events from the lines that are left, which have the numbers from i on
abbrev pub events_from : Bool → List Line → ℕ → List Line → List Event
events_from directed lines i left = flat_map (λ p. events_to directed p.0 p.1 (lines_for directed lines p.0)) (enumerate_from i left)
