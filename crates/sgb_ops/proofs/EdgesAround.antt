-- The edges of a circle at each vertex, of which an induced graph has those that are taken.
use Rattle.sgb_vec.proofs.Common.{◌≡◌, ◌∙◌, ◌<◌, ◌≤◌, ◌+◌, ◌-◌, ◌==◌, ℕ, zero, suc, min, max, Bool, false, List, [], ◌∷◌, ◌++◌, map, filter, reverse, refl, sym, ap, ap₂, arith, range_with_len, enumerate_from, flat_map, filter-append, reverse-append, map-range_with_len_more, map-append, cases_eq, cases_lt, eq-eqb, ne_eqb, lt-ltb, le-ltb}
use Rattle.sgb_graph.specs.Events.{Event}
use Rattle.sgb_graph.specs.Graphs.{GraphData}
use Rattle.sgb_taken.specs.Taken.{edges_up_from, lower_record}
use Rattle.sgb_ops.specs.declared.induced_graphs.entries.Entry.TheVariants as entry
use Rattle.sgb_ops.specs.Entries.{inner_events}
use Rattle.sgb_ops.specs.Merged.{merged_unless}
use Rattle.sgb_ops.specs.inner.Circles.{circle, edges_around, edges_at}
use Rattle.sgb_ops.specs.inner.Entries.{inner_event, inner_events_from}
use Rattle.sgb_ops.specs.inner.Induced.{wanted}
use Rattle.sgb_ops.specs.inner.Merged.{HaveDifferentEnds}
use Rattle.sgb_ops.proofs.Apart.{merged_unless_same}
use Rattle.sgb_ops.proofs.InducedParts.{graph_left, graph_part}
use Rattle.sgb_ops.proofs.CircleBoards.{around, has_edges_around, order_around}
use Rattle.sgb_taken.proofs.Taking.{taken_of_edges}

-- the edge has the smaller end w
abbrev is_up_from : ℕ → Event → Bool
is_up_from w e = min e.from e.to == w

-- it goes from w to its greater end, where the first vertex is the one given
abbrev edge_up : ℕ → ℕ → Event → Event
edge_up start w e = record { from = start + w; to = start + max e.from e.to; len = e.len }

-- the arcs taken of w, by the edges alone
edges_taken : (start w i : ℕ) (events : List Event)
    → map (λ p. inner_event start w (lower_record p)) (filter (λ p. min p.1.from p.1.to == w) (enumerate_from i events)) ≡ map (edge_up start w) (filter (is_up_from w) events)
edges_taken start w i [] = refl
edges_taken start w i (e ∷ events) = grind (arith, edges_taken start w (i + 1) events)

-- of some edges one after another, none of which closes the circle, that of w
abbrev ahead : ℕ → ℕ → ℕ → ℕ → List Event
ahead n w a k = filter (is_up_from w) (map (around n) (range_with_len a k))

before_none : (n w a k : ℕ) → a + k < n → w < a → ahead n w a k ≡ []
before_none n w a zero few less = refl
before_none n w a (suc k) few less = grind (arith, lt-ltb, ne_eqb, before_none n w (a + 1) k (omega (arith, few)) (omega (arith, less)))

after_none : (n w a k : ℕ) → a + k < n → a + k ≤ w → ahead n w a k ≡ []
after_none n w a zero few past = refl
after_none n w a (suc k) few past = grind (arith, lt-ltb, ne_eqb, after_none n w (a + 1) k (omega (arith, few)) (omega (arith, past)))

one_ahead : (n w a k : ℕ) → a + k < n → a ≤ w → w < a + k → ahead n w a k ≡ around n w ∷ []
one_ahead n w a zero few from below = absurd (omega (arith, from, below))
one_ahead n w a (suc k) few from below = grind (arith, lt-ltb, cases_eq, eq-eqb, ne_eqb, before_none n w (a + 1) k (omega (arith, few)), one_ahead n w (a + 1) k (omega (arith, few)))

-- with the last one, which closes it, those of w from the last to the first
up_from_all : (n w : ℕ) → w < n → 3 ≤ n → filter (is_up_from w) (map (around n) (range_with_len 0 n))
    ≡ ahead n w 0 (n - 1) ++ filter (is_up_from w) (around n (n - 1) ∷ [])
up_from_all n w below some =
    ap (λ k. filter (is_up_from w) (map (around n) (range_with_len 0 k))) {x = n} {y = n - 1 + 1} (omega (arith, some))
    ∙ (ap (filter (is_up_from w)) (map-range_with_len_more (around n) 0 (n - 1) (n - 1) (omega arith)) ∙ filter-append (is_up_from w) (map (around n) (range_with_len 0 (n - 1))) (around n (n - 1) ∷ []))

-- they are the edges at w
up_at : (n start w : ℕ) → w < n → 3 ≤ n → reverse (map (edge_up start w) (filter (is_up_from w) (map (around n) (range_with_len 0 n)))) ≡ edges_at n start w
up_at n start w below some = rw (up_from_all n w below some) (grind (arith, cases_eq, cases_lt, eq-eqb, ne_eqb, lt-ltb, le-ltb, one_ahead n w 0 (n - 1), after_none n w 0 (n - 1)))

-- what is made of the elements that are made of others, from the last on
reversed_map : {X Y Z : Type 0} (h : Y → Z) (f : X → Y) (xs : List X) → map h (reverse (map f xs)) ≡ reverse (map (λ x. h (f x)) xs)
reversed_map h f [] = refl
reversed_map h f (x ∷ xs) =
    ap (map h) (reverse-append (f x ∷ []) (map f xs))
    ∙ (map-append h (reverse (map f xs)) (f x ∷ []) ∙ (ap (λ zs. zs ++ h (f x) ∷ []) (reversed_map h f xs) ∙ sym (reverse-append (h (f x) ∷ []) (map (λ y. h (f y)) xs))))

-- so are those of the arcs taken of w
pub inner_at : (n start w : ℕ) → w < n → 3 ≤ n → inner_events_from false start (circle n) w ≡ edges_at n start w
inner_at n start w below some =
    let events = map (around n) (range_with_len 0 n) in
    ap (map (inner_event start w)) (taken_of_edges events (circle n) w (has_edges_around n) (omega (arith, below, order_around n)))
    ∙ (reversed_map (inner_event start w) lower_record (edges_up_from w events) ∙ (ap reverse (edges_taken start w 0 events) ∙ up_at n start w below some))

-- they have different ends, and none is a loop
edges_apart : (n start w : ℕ) → w < n → 3 ≤ n → HaveDifferentEnds (edges_at n start w)
edges_apart n start w below some directed = grind (arith)

all_wanted : (self : Bool) (n start w : ℕ) → w < n → 3 ≤ n → wanted self (edges_at n start w) ≡ edges_at n start w
all_wanted self n start w below some = grind (arith, cases_eq, cases_lt, eq-eqb, ne_eqb, lt-ltb, le-ltb)

-- those of vertex w that are left
part_at : (self multi : Bool) (n start w : ℕ) → w < n → 3 ≤ n → graph_part self multi false start (circle n) w ≡ edges_at n start w
part_at self multi n start w below some =
    ap (λ es. merged_unless multi false (wanted self es)) (inner_at n start w below some)
    ∙ (ap (merged_unless multi false) (all_wanted self n start w below some) ∙ merged_unless_same multi false (edges_at n start w) (edges_apart n start w below some))

parts_around : (self multi : Bool) (n start a k : ℕ) → a + k ≤ n → 3 ≤ n → flat_map (graph_part self multi false start (circle n)) (range_with_len a k) ≡ flat_map (edges_at n start) (range_with_len a k)
parts_around self multi n start a zero few some = refl
parts_around self multi n start a (suc k) few some =
    ap₂ (λ xs ys. xs ++ ys) (part_at self multi n start a (omega (arith, few)) some) (parts_around self multi n start (a + 1) k (omega (arith, few)) some)

-- of all events inside a graph these edges are left
abbrev pub AreLeft : ℕ → GraphData → Type 0
AreLeft start g = (self multi : Bool) → merged_unless multi false (wanted self (inner_events false start (entry.Graph g))) ≡ edges_around g start

-- so of a circle
pub left_around : (n start : ℕ) → 3 ≤ n → AreLeft start (circle n)
left_around n start some self multi =
    let order = order_around n in
    sym (graph_left false start (circle n) self multi)
    ∙ (ap (λ k. flat_map (graph_part self multi false start (circle n)) (range_with_len 0 k)) order
    ∙ (parts_around self multi n start 0 n (omega arith) some ∙ ap (λ k. flat_map (edges_at k start) (range_with_len 0 k)) (sym order)))
