-- The events of an intersection, as they are found one by one.
use Rattle.sgb_vec.proofs.Common.{rules, ◌≡◌, ◌<◌, ◌+◌, ◌==◌, ℕ, min, ℤ, Bool, true, false, List, [], ◌∷◌, ◌++◌, map, take, length, Option, refl, sym, ◌∙◌, append_assoc, arith, All, flat_map, nat_lt, if◌then◌else◌, enumerate_from, cases_Bool, cond_both, ltb-true, nat_tests, length-append, take_at, All-nil, All-cons, All-append, length-filter, int_max}
use Rattle.sgb_graph.specs.Graphs.{GraphData}
use Rattle.sgb_graph.specs.Events.{Event, HasEndsBelow}
use Rattle.sgb_graph.specs.declared.fields.Link.{Link}
use Rattle.sgb_ops.specs.inner.Ends.{AllWithin}
use Rattle.sgb_ops.specs.Intersection.{count_to, least_to, common_count, common_length, common_events, intersection_events}
use Rattle.sgb_ops.specs.Lengths.{least_of}
use Rattle.sgb_graph.specs.Vertices.{order_of}
use Rattle.sgb_taken.specs.Taken.{taken}
use Rattle.sgb_ops.specs.inner.Tallies.{tally_left, tally_of, tally_to, without_one, second_length, event_left}
use Rattle.sgb_ops.specs.declared.tallies.Tally.{Tally}
use Rattle.sgb_ops.specs.inner.Intersection.{common_event}
use Rattle.sgb_ops.specs.inner.Sources.{HasTips}
use Rattle.sgb_taken.proofs.TakenTips.{TipBelow}
use Rattle.sgb_ops.proofs.EventsWithin.{events_after_within}
use Rattle.sgb_ops.proofs.ListedEvents.{listed_tips}
use Rattle.sgb_ops.proofs.PlainLists.{places_from}
use Rattle.sgb_ops.proofs.TallyLemmas.{arcs_to, count_more, count_at, tip_counted}

-- the events for arcs of hs that stand after others
abbrev pub commons_after : Bool → ℕ → List Link → List Link → List Link → List Link → List Event
commons_after multi v gs hs before [] = []
commons_after multi v gs hs before (l ∷ links) = common_event multi v gs hs before l ++ commons_after multi v gs hs (before ++ l ∷ []) links

-- what is left of the arcs of gs to u after these of hs
abbrev pub left_after : Bool → ℕ → List Link → List Link → Option Tally
left_after multi u gs before = tally_left multi (count_to u before) (tally_to u gs)

-- the events of v that both graphs have
abbrev pub commons_of : GraphData → GraphData → Bool → Bool → ℕ → List Event
commons_of g h multi directed v = common_events multi v (taken directed g v) (taken directed h v)

-- those of the vertices from v on
abbrev pub events_after : GraphData → GraphData → Bool → Bool → ℕ → List Event
events_after g h multi directed v = flat_map (commons_of g h multi directed) (places_from (min (order_of g) (order_of h)) v)

-- these are those that are found by their places
pub commons_at_places : (multi : Bool) (v : ℕ) (gs hs before links : List Link) (k : ℕ) → hs ≡ before ++ links → k ≡ length before
    → flat_map (λ p. common_event multi v gs hs (take p.0 hs) p.1) (enumerate_from k links) ≡ commons_after multi v gs hs before links
commons_at_places multi v gs hs before [] k is place = refl
commons_at_places multi v gs hs before (l ∷ links) k is place = grind (arith, append_assoc, length-append, take_at, commons_at_places multi v gs hs (before ++ l ∷ []) links (k + 1) (is ∙ sym (append_assoc before (l ∷ []) links)) (omega (arith, length-append before (l ∷ []))))

pub left_at_first : (multi : Bool) (u : ℕ) (gs : List Link) → tally_to u gs ≡ left_after multi u gs []
left_at_first multi u gs = grind (arith, nat_tests)

-- one more is met
one_met : (multi : Bool) (met : ℕ) (o : Option Tally) → tally_left multi (met + 1) o ≡ without_one multi (tally_left multi met o)
one_met multi met o = grind (arith, nat_tests)

pub left_more : (multi : Bool) (u : ℕ) (gs before : List Link) (l : Link)
    → (if l.tip == u then without_one multi (left_after multi u gs before) else left_after multi u gs before) ≡ left_after multi u gs (before ++ l ∷ [])
left_more multi u gs before l = search (rules, cases_Bool, count_more, one_met)

-- how many there are in the end, by how many the two graphs have
abbrev most_common : Bool → ℕ → ℕ → ℕ
most_common true a b = min a b
most_common false a b = min 1 (min a b)

common_counts : (multi : Bool) (u : ℕ) (gs hs : List Link) → common_count multi u gs hs ≡ most_common multi (count_to u gs) (count_to u hs)
common_counts multi u gs hs = grind (arith, nat_tests)

-- the length that counts in the second graph, where some of its arcs lead there
second_least : (links : List Link) (far : ℤ) → 0 < length links → second_length false far (tally_of links) ≡ least_of (map (λ x. x.len) links)
second_least links far some = grind (arith, nat_tests)

lengths_agree : (multi : Bool) (gs hs : List Link) (l : Link) → 0 < count_to l.tip hs
    → common_length multi gs hs l ≡ int_max (least_to l.tip gs) (second_length multi l.len (tally_to l.tip hs))
lengths_agree multi gs hs l some = grind (arith, second_least, length-filter)

-- the event where so many arcs of the graphs lead to u, and so many were met
event_counted : (multi : Bool) (v u b met : ℕ) (far all : ℤ) (arcs : List Link) → met < b
    → (0 < length arcs → all ≡ int_max (least_of (map (λ l. l.len) arcs)) far)
    → event_left v u far (tally_left multi met (tally_of arcs)) ≡ (if nat_lt met (most_common multi (length arcs) b) then record { from = v; to = u; len = all } ∷ [] else [])
event_counted multi v u b met far all arcs within long = grind (arith, nat_tests)

-- the event for an arc that stands after others
pub event_there : (multi : Bool) (v : ℕ) (gs hs before links : List Link) (l : Link) → hs ≡ before ++ l ∷ links
    → event_left v l.tip (second_length multi l.len (tally_to l.tip hs)) (left_after multi l.tip gs before) ≡ common_event multi v gs hs before l
event_there multi v gs hs before links l is =
    let within : count_to l.tip before < count_to l.tip hs = rw is (count_at l.tip before links l refl) in
    let many = length-filter (λ (x : Link). x.tip == l.tip) gs in
    let whole = event_counted multi v l.tip (count_to l.tip hs) (count_to l.tip before) (second_length multi l.len (tally_to l.tip hs)) (common_length multi gs hs l) (arcs_to l.tip gs) within (λ some. lengths_agree multi gs hs l (omega (arith, within))) in
    grind (arith, common_counts, many, whole)

-- the ends of the events of v are below n
pub commons_within : (n : ℕ) (multi : Bool) (v : ℕ) (gs hs before links : List Link) → v < n → All (TipBelow n) gs → AllWithin n (commons_after multi v gs hs before links)
commons_within n multi v gs hs before [] below all = All-nil (HasEndsBelow n)
commons_within n multi v gs hs before (l ∷ links) below all =
    All-append (HasEndsBelow n) (common_event multi v gs hs before l) (commons_after multi v gs hs (before ++ l ∷ []) links)
    (cond_both (nat_lt (count_to l.tip before) (common_count multi l.tip gs hs)) (record { from = v; to = l.tip; len = common_length multi gs hs l } ∷ []) [] (AllWithin n)
    (λ wanted. All-cons (HasEndsBelow n) _ [] (below, tip_counted n l.tip gs all (grind (arith, common_counts, ltb-true))) (All-nil (HasEndsBelow n)))
    (λ _. All-nil (HasEndsBelow n)))
    (commons_within n multi v gs hs (before ++ l ∷ []) links below all)

-- and so are those of all vertices
pub intersection_within : (g h : GraphData) (multi directed : Bool) → HasTips g → AllWithin (order_of g) (intersection_events g h multi directed)
intersection_within g h multi directed tips =
    events_after_within (order_of g) (commons_of g h multi directed) 0 (min (order_of g) (order_of h))
    (λ v low high. rw (commons_at_places multi v (taken directed g v) (taken directed h v) [] (taken directed h v) 0 refl refl)
    (commons_within (order_of g) multi v (taken directed g v) (taken directed h v) [] (taken directed h v) (omega (arith, high)) (listed_tips directed g v tips (omega (arith, high)))))
