-- What is known of the arcs taken of a list.
use Rattle.sgb_vec.proofs.Common.{rules, ◌≡◌, ◌+◌, ◌*◌, ◌≤◌, ◌<◌, ◌==◌, ℕ, ℤ, min, max, Bool, true, false, cond, ltb, nat_lt, List, [], ◌∷◌, ◌++◌, map, reverse, length, refl, sym, ap, ◌∙◌, Option, Some, None, arith, All, filter, if◌then◌else◌, enumerate_from, option_map_or, cases_eq, cond_both, ltb-false, eq-eqb, ne_eqb, lt-ltb, le-ltb, and_right, append-nil, reverse-append, All-nil, All-cons, All-head, All-tail, All-append, All-weaker}
use Rattle.sgb_graph.specs.Graphs.{GraphData}
use Rattle.sgb_graph.specs.Events.{Event, Record, HasArcsOf, links_at, list_from, records_of}
use Rattle.sgb_graph.specs.Growth.{link}
use Rattle.sgb_graph.proofs.EventLemmas.{record_from}
use Rattle.sgb_graph.specs.declared.fields.Link.{Link}
use Rattle.sgb_taken.specs.Taken.{each_edge_once, taken, lower_record, edges_up_from}
use Rattle.sgb_taken.specs.inner.TakenArcs.{IsStep, taken_after, without_other}

-- an arc of the list of v that leads to no vertex before it
abbrev leads_up : ℕ → Link → Type 0
leads_up v l = v ≤ l.tip

-- what holds of each arc that leads up holds of those taken
pub all_once : (P : Link → Type 0) (v : ℕ) (links : List Link) → All (λ l. v ≤ l.tip → P l) links → All P (each_edge_once v links)
unfolding each_edge_once
all_once P v [] all = All-nil P
all_once P v (l ∷ []) all = grind (arith, All-nil, cond_both, ltb, All-cons, All-head, ltb-false)
all_once P v (l ∷ k ∷ links) all = grind (arith, All-tail, cond_both, ltb, All-cons, All-head, ltb-false, all_once P v (k ∷ links) (All-tail (λ m. v ≤ m.tip → P m) l (k ∷ links) all), all_once P v links (All-tail (λ m. v ≤ m.tip → P m) k links (All-tail (λ m. v ≤ m.tip → P m) l (k ∷ links) all)))

-- they lead up
pub each_edge_once_leads_up : (v : ℕ) (links : List Link) → All (leads_up v) (each_edge_once v links)
each_edge_once_leads_up v links = all_once (leads_up v) v links (λ k d h up. up)

-- and so do the arcs that are taken of v for an undirected result
pub taken_up : (directed : Bool) (g : GraphData) (v : ℕ) → All (λ l. directed ≡ false → v ≤ l.tip) (taken directed g v)
taken_up directed g v = grind (arith, each_edge_once_leads_up)

-- taken of two lists, one after the other
pub taken_apart : (v low : ℕ) (xs ys : List Link) → All (λ l. low ≤ l.number) xs → All (λ l. l.number < low) ys
    → each_edge_once v (xs ++ ys) ≡ each_edge_once v xs ++ each_edge_once v ys
unfolding each_edge_once
taken_apart v low [] ys high below = refl
taken_apart v low (l ∷ []) [] high below = sym (append-nil (each_edge_once v (l ∷ [])))
taken_apart v low (l ∷ []) (y ∷ ys) high below = grind (arith, All-head, ne_eqb, and_right, nat_lt)
taken_apart v low (l ∷ m ∷ xs) ys high below = grind (arith, All-tail, nat_lt, taken_apart v low (m ∷ xs) ys (All-tail (λ x. low ≤ x.number) l (m ∷ xs) high) below, taken_apart v low xs ys (All-tail (λ x. low ≤ x.number) m xs (All-tail (λ x. low ≤ x.number) l (m ∷ xs) high)) below)

-- of the records of one edge the lower one is taken, at the smaller end
pub one_edge : (v k a b : ℕ) (far : ℤ) → a ≤ b
    → each_edge_once v (links_at v k (record_from a b far ∷ record_from b a far ∷ [])) ≡ (if a == v then link k b far ∷ [] else [])
unfolding each_edge_once
one_edge v k a b far up = search (rules, cases_eq, eq-eqb, le-ltb, ne_eqb, lt-ltb)

-- the numbers of the links of some rows
pub numbers_at : (v k : ℕ) (rows : List Record) → All (λ l. (k ≤ l.number) × (l.number < k + length rows)) (links_at v k rows)
numbers_at v k [] = All-nil _
numbers_at v k (r ∷ rows) = grind (arith, All-append, cond_both, All-cons, All-nil, All-weaker, numbers_at v (k + 1) rows)

-- the numbers on the list of events whose first record has number k
pub numbers_from_first : (directed : Bool) (k : ℕ) (events : List Event) (v : ℕ) → All (λ l. k ≤ l.number) (list_from directed k events v)
unfolding list_from
numbers_from_first directed k [] v = All-nil _
numbers_from_first directed k (e ∷ events) v =
    let low = k + length (records_of directed e) in
    All-append (λ l. k ≤ l.number) (list_from directed low events v) (links_at v k (records_of directed e))
    (All-weaker (λ l. low ≤ l.number) (λ l. k ≤ l.number) (λ l p. omega (arith, p)) _ (numbers_from_first directed low events v))
    (All-weaker (λ l. (k ≤ l.number) × (l.number < low)) (λ l. k ≤ l.number) (λ l p. p.0) _ (numbers_at v k (records_of directed e)))

-- taken of the list of the events, whose first one has this place
taken_from : (v i : ℕ) (events : List Event)
    → each_edge_once v (list_from false (2 * i) events v) ≡ reverse (map lower_record (filter (λ p. min p.1.from p.1.to == v) (enumerate_from i events)))
unfolding list_from each_edge_once
taken_from v i [] = refl
taken_from v i (e ∷ events) =
    let next = taken_from v (i + 1) events in
    let place : 2 * (i + 1) ≡ 2 * i + 2 = omega arith in
    let own = one_edge v (2 * i) (min e.from e.to) (max e.from e.to) e.len (omega arith) in
    taken_apart v (2 * i + 2) (list_from false (2 * i + 2) events v) (links_at v (2 * i) (records_of false e)) (numbers_from_first false (2 * i + 2) events v)
    (All-weaker (λ l. (2 * i ≤ l.number) × (l.number < 2 * i + 2)) (λ l. l.number < 2 * i + 2) (λ l p. p.1) _ (numbers_at v (2 * i) (records_of false e)))
    ∙ (ap (λ xs. xs ++ each_edge_once v (links_at v (2 * i) (records_of false e))) (ap (λ k. each_edge_once v (list_from false k events v)) (sym place) ∙ next)
    ∙ (ap (λ ys. reverse (map lower_record later) ++ ys) own ∙ by_end (min e.from e.to == v)))
  where
    later : List (ℕ × Event)
    later = filter (λ p. min p.1.from p.1.to == v) (enumerate_from (i + 1) events)

    by_end : (b : Bool) → reverse (map lower_record later) ++ (if b then link (2 * i) (max e.from e.to) e.len ∷ [] else [])
        ≡ reverse (map lower_record (cond b ((i, e) ∷ later) later))
    by_end true = sym (reverse-append (link (2 * i) (max e.from e.to) e.len ∷ []) (map lower_record later))
    by_end false = append-nil (reverse (map lower_record later))

-- the arcs taken of a vertex of a graph of edges
pub taken_of_edges : (events : List Event) (g : GraphData) (v : ℕ) → HasArcsOf false events g → v < length g.vertices
    → taken false g v ≡ reverse (map lower_record (edges_up_from v events))
taken_of_edges events g v has below = ap (each_edge_once v) (has.lists v below) ∙ taken_from v 0 events

-- whether this number follows that of a loop that was taken
abbrev pub is_other : Option ℕ → ℕ → Bool
is_other after_loop number = option_map_or (λ k. number == k + 1) after_loop false

-- the other record of a loop is passed over
pub step_other : (directed : Bool) (v : ℕ) (after_loop : Option ℕ) (l : Link) → is_other after_loop l.number ≡ true → IsStep directed v after_loop l false None
step_other directed v after_loop l is = grind (arith)

-- each other arc is taken for a directed result
pub step_directed : (v : ℕ) (after_loop : Option ℕ) (l : Link) → is_other after_loop l.number ≡ false → IsStep true v after_loop l true None
step_directed v after_loop l out = grind (arith)

-- one arc of the list of an undirected graph
pub one_taken : (v : ℕ) (l : Link) (links : List Link)
    → each_edge_once v (l ∷ links) ≡ (if nat_lt l.tip v then each_edge_once v links else l ∷ each_edge_once v (without_other (if l.tip == v then Some l.number else None) links))
unfolding each_edge_once
one_taken v l links = grind (arith, nat_lt)

-- an arc to a vertex before v is passed over
pub step_down : (v : ℕ) (after_loop : Option ℕ) (l : Link) → is_other after_loop l.number ≡ false → l.tip < v → IsStep false v after_loop l false None
step_down v after_loop l out down = grind (arith, one_taken, lt-ltb)

-- of a loop the first record is taken
pub step_loop : (v : ℕ) (after_loop : Option ℕ) (l : Link) → is_other after_loop l.number ≡ false → l.tip ≡ v → IsStep false v after_loop l true (Some l.number)
step_loop v after_loop l out here = grind (arith, one_taken, le-ltb, eq-eqb)

-- an arc to a vertex after v is taken
pub step_up : (v : ℕ) (after_loop : Option ℕ) (l : Link) → is_other after_loop l.number ≡ false → v ≤ l.tip → (l.tip ≡ v → ⊥) → IsStep false v after_loop l true None
step_up v after_loop l out up other = grind (arith, one_taken, le-ltb, ne_eqb)

-- of no arcs none is taken
pub none_taken : (directed : Bool) (v : ℕ) (after_loop : Option ℕ) → taken_after directed v after_loop [] ≡ []
unfolding each_edge_once
none_taken directed v after_loop = grind (arith)
