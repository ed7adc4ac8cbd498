-- The events of an induced graph where parts have no ends in common: those of each vertex of a graph that is put in, and
-- those of each copy.
use Rattle.sgb_vec.proofs.Common.{◌≡◌, ◌<◌, ◌≤◌, ◌+◌, ◌==◌, ℕ, zero, suc, Bool, true, false, List, [], ◌∷◌, ◌++◌, length, get_or, Option, Some, None, inl, inr, refl, sym, ap, subst, ◌∙◌, arith, rules, All, Contains, flat_map, slice_get, list_any, enumerate_from, range_with_len, option_map_or, both_ways, cases_eq, cases_lt, eq-eqb, or_parts, nat_tests, list_any_at, All-nil, All-map, All-filter, All-weaker, All-contains_itself, filter_passes, filter-append, get_or_from_slice_get, slice_get_within}
use Rattle.sgb_vec.proofs.Lists.{All-flat_map, Contains-range, never_true, range-within}
use Rattle.sgb_graph.specs.Graphs.{GraphData}
use Rattle.sgb_graph.specs.Events.{Event, HasEndsBelow}
use Rattle.sgb_graph.specs.Growth.{AddsEvents}
use Rattle.sgb_graph.proofs.AddedEvents.{adds-none}
use Rattle.sgb_graph.specs.declared.fields.Link.{Link}
use Rattle.sgb_ops.specs.declared.induced_graphs.entries.Entry.{Entry}
use Rattle.sgb_ops.specs.declared.induced_graphs.entries.Entry.TheVariants as entry
use Rattle.sgb_ops.specs.Entries.{copies_of, events_within, first_copy, inner_events, is_unnumbered, merged_count, size_of_entry}
use Rattle.sgb_ops.specs.Induced.{events_between, induced_events}
use Rattle.sgb_ops.specs.Merged.{has_ends_of, merged, merged_unless}
use Rattle.sgb_graph.specs.Vertices.{order_of, places_of}
use Rattle.sgb_taken.specs.Taken.{taken}
use Rattle.sgb_ops.specs.inner.Copies.{IsKeptEntry, copies_start, count_by}
use Rattle.sgb_ops.specs.inner.Ends.{AllWithin}
use Rattle.sgb_ops.specs.inner.Parts.{has_loop_inside, has_loops_inside}
use Rattle.sgb_ops.specs.inner.Sources.{HasTips}
use Rattle.sgb_ops.specs.inner.Slots.{inner_graph}
use Rattle.sgb_ops.specs.inner.Entries.{inner_event, inner_events_from, total_of}
use Rattle.sgb_ops.specs.inner.Induced.{copies_met, event_between, events_of_arc, events_of_copies, events_of_copy, is_met, is_wanted, wanted}
use Rattle.sgb_ops.proofs.CopiesInOrder.{copy_between, firsts_order}
use Rattle.sgb_ops.proofs.CopiesWithin.{of_arcs as events_of_arcs_within}
use Rattle.sgb_ops.proofs.Ends.{ends}
use Rattle.sgb_ops.proofs.EntryTotals.{copies-range, next_copy, number_below}
use Rattle.sgb_ops.proofs.ListedEvents.{listed_tips}
use Rattle.sgb_ops.proofs.MergedParts.{AreApart, merged_both}
use Rattle.sgb_ops.proofs.RisingParts.{Rises, merged_rising, rises_wider}
use Rattle.sgb_taken.proofs.Taking.{taken_up}

-- the ends of the event are vertices of a to b
abbrev pub Inside : ℕ → ℕ → Event → Type 0
Inside a b e = (a ≤ e.from) × (e.from < b) × (a ≤ e.to) × (e.to < b)

-- the events that are left of vertex w of a graph whose first vertex is `start`
abbrev pub graph_part : Bool → Bool → Bool → ℕ → GraphData → ℕ → List Event
graph_part self multi directed start inner w = merged_unless multi directed (wanted self (inner_events_from directed start inner w))

-- the events of that vertex
module _ (directed : Bool) (start : ℕ) (inner : GraphData) where
  inside_from : (w : ℕ) → HasTips inner → w < order_of inner → All (Inside start (start + order_of inner)) (inner_events_from directed start inner w)
  inside_from w kept below =
      All-map (Inside start (start + order_of inner)) (inner_event start w) (taken directed inner w)
      (λ k d h. let tip = listed_tips directed inner w kept below k d h in (omega arith, omega (arith, below), omega arith, omega (arith, tip)))

  -- they are between vertices of the result
  pub part_within : (self : Bool) (w n : ℕ) → HasTips inner → w < order_of inner → start + order_of inner ≤ n → AllWithin n (wanted self (inner_events_from directed start inner w))
  part_within self w n kept below few =
      All-filter (is_wanted self) (HasEndsBelow n) (inner_events_from directed start inner w)
      (All-weaker (Inside start (start + order_of inner)) (HasEndsBelow n) (λ e p. (omega (arith, few, p.1), omega (arith, few, p.3))) (inner_events_from directed start inner w) (inside_from w kept below))

  inner_rises : (w : ℕ) → All (Rises directed (start + w) (start + (w + 1))) (inner_events_from directed start inner w)
  inner_rises w =
      All-map (Rises directed (start + w) (start + (w + 1))) (inner_event start w) (taken directed inner w)
      (λ k d h. (omega arith, omega arith, λ same. omega (arith, taken_up directed inner w k d h same)))

  -- those of all its vertices that are left
  pub graph_left : (self multi : Bool) → flat_map (graph_part self multi directed start inner) (places_of inner)
      ≡ merged_unless multi directed (wanted self (inner_events directed start (entry.Graph inner)))
  graph_left self multi = merged_rising self multi directed (inner_events_from directed start inner) (λ w. start + w) 0 (order_of inner) (λ w low high. inner_rises w) (λ u w less. omega (arith, less))

  -- all of them are inside it
  graph_inside : HasTips inner → All (Inside start (start + order_of inner)) (inner_events directed start (entry.Graph inner))
  graph_inside kept =
      All-flat_map (Inside start (start + order_of inner)) (inner_events_from directed start inner) (places_of inner)
      (λ k d h. inside_from (get_or (places_of inner) k d) kept (omega (arith, (range-within 0 (order_of inner) k d h).1)))

entry_inside : (directed : Bool) (start : ℕ) (e : Entry) → IsKeptEntry e → All (Inside start (start + size_of_entry e)) (inner_events directed start e)
entry_inside directed start e kept = grind (arith, All-nil, Inside, graph_inside)

-- the vertex is a copy that stands for v alone
abbrev pub Own : List Entry → ℕ → ℕ → Type 0
Own entries v u = (first_copy entries v ≤ u) × (u < first_copy entries (v + 1))

-- first copies rise
firsts_up : (entries : List Entry) (v w : ℕ) → v < w → first_copy entries (v + 1) ≤ first_copy entries w
firsts_up entries v w less = let next : v + 1 ≡ suc v = omega arith in omega (arith, firsts_order entries v w less, ap (first_copy entries) next)

-- so a copy stands for one vertex
pub own_same : (entries : List Entry) (v w u : ℕ) → Own entries v u → Own entries w u → w ≡ v
own_same entries v w u a b = grind (arith, cases_lt, firsts_up)

-- an entry that is looked up
kept_at : (entries : List Entry) (v : ℕ) (e : Entry) → All IsKeptEntry entries → slice_get entries v ≡ Some e → IsKeptEntry e
kept_at entries v e kept here = subst IsKeptEntry (get_or_from_slice_get entries v e e here) (kept v e (slice_get_within entries v e here))

-- none passes a test
none_at : (t : ℕ → Entry → Bool) (i : ℕ) (entries : List Entry) (k : ℕ) (e : Entry) → list_any (λ p. t p.0 p.1) (enumerate_from i entries) ≡ false → slice_get entries k ≡ Some e → t (i + k) e ≡ false
none_at t i [] k e none here = absurd (search (rules, here))
none_at t i (x ∷ entries) zero e none here = grind (arith, or_parts)
none_at t i (x ∷ entries) (suc k) e none here = grind (arith, or_parts, none_at t (i + 1) entries k e (or_parts (t i x) (list_any (λ p. t p.0 p.1) (enumerate_from (i + 1) entries)) none).1 here)

-- what entries with their places give is what the entries at the places give
by_places : (f : ℕ → Entry → List Event) (i : ℕ) (xs : List Entry) (at : ℕ → Option Entry) → ((k : ℕ) → at (i + k) ≡ slice_get xs k)
    → flat_map (λ p. f p.0 p.1) (enumerate_from i xs) ≡ flat_map (λ v. option_map_or (f v) (at v) []) (range_with_len i (length xs))
by_places f i [] at same = refl
by_places f i (x ∷ xs) at same = grind (arith, same 0, by_places f (i + 1) xs at (λ k. let next : i + 1 + k ≡ i + suc k = omega arith in ap at next ∙ same (suc k)))

-- the events inside the entry of v
abbrev pub inside_at : List Entry → Bool → ℕ → List Event
inside_at entries directed v = option_map_or (inner_events directed (first_copy entries v)) (slice_get entries v) []

-- those that are left
abbrev pub inside_part : Bool → Bool → List Entry → Bool → ℕ → List Event
inside_part self multi entries directed v = merged_unless multi directed (wanted self (inside_at entries directed v))

module _ (entries : List Entry) (directed : Bool) (kept : All IsKeptEntry entries) where
  within_places : events_within entries directed ≡ flat_map (inside_at entries directed) (range_with_len 0 (length entries))
  within_places = by_places (λ v. inner_events directed (first_copy entries v)) 0 entries (slice_get entries) (λ k. let place : 0 + k ≡ k = omega arith in ap (slice_get entries) place)

  -- they are between its copies
  at_inside : (v : ℕ) → All (Inside (first_copy entries v) (first_copy entries (v + 1))) (inside_at entries directed v)
  at_inside v = grind (arith, Inside, All-nil, next_copy, entry_inside, kept_at)

  at_rises : (v : ℕ) → All (Rises directed (first_copy entries v) (first_copy entries (v + 1))) (inside_at entries directed v)
  at_rises v = search (rules, All-weaker, at_inside)

  -- those inside all entries that are left
  pub within_left : (self multi : Bool)
      → flat_map (inside_part self multi entries directed) (range_with_len 0 (length entries))
      ≡ merged_unless multi directed (wanted self (events_within entries directed))
  within_left self multi =
      merged_rising self multi directed (inside_at entries directed) (first_copy entries) 0 (length entries) (λ v low high. at_rises v) (firsts_up entries)
      ∙ ap (λ es. merged_unless multi directed (wanted self es)) (sym within_places)

-- the events that are left of those from copy u of v, and from all copies of v
abbrev pub copy_part : Bool → Bool → GraphData → List Entry → Bool → ℕ → ℕ → List Event
copy_part self multi g entries directed v u = merged_unless multi directed (wanted self (events_of_copy g entries directed v u))

abbrev pub vertex_part : Bool → Bool → GraphData → List Entry → Bool → ℕ → List Event
vertex_part self multi g entries directed v = merged_unless multi directed (wanted self (events_of_copies g entries directed v))

-- where no vertices are merged each copy stands for one alone
module _ (entries : List Entry) (numbered : list_any is_unnumbered entries ≡ false) (apart : merged_count entries ≡ 0) where
  pub own_copy : (v u : ℕ) → Contains (copies_of entries v) u → Own entries v u
  own_copy v u copy = elim (copy_between entries v u numbered copy) [
    | inl own ↦ let next : suc v ≡ v + 1 = omega arith in (own.0, omega (arith, own.1, ap (first_copy entries) next))
    | inr merged ↦ absurd (omega (arith, number_below entries v (entry.Merged (u + 1)) merged, apart))
  ]

  pub all_own : (v : ℕ) → All (Own entries v) (copies_of entries v)
  all_own v = λ k d h. own_copy v (get_or (copies_of entries v) k d) (All-contains_itself (copies_of entries v) k d h)

module _ (g : GraphData) (entries : List Entry) (directed : Bool) (numbered : list_any is_unnumbered entries ≡ false) (apart : merged_count entries ≡ 0) where
  -- copy u of v is joined to no copy before it by an edge
  met_up : (b : Bool) (v u tip t : ℕ) → b ≡ false → v ≤ tip → Own entries v u → Own entries tip t → is_met b v u tip t ≡ true → u ≤ t
  met_up b v u tip t edge up own there met = grind (arith, cases_eq, eq-eqb, nat_tests, firsts_up)

  of_arc : (v u : ℕ) (a : Link) → Own entries v u → (directed ≡ false → v ≤ a.tip) → All (Rises directed u (u + 1)) (events_of_arc entries directed v u a)
  of_arc v u a own up =
      All-map (Rises directed u (u + 1)) (event_between u a.len) (copies_met entries directed v u a.tip)
      (λ k d h.
      let there = All-filter (is_met directed v u a.tip) (Own entries a.tip) (copies_of entries a.tip) (all_own entries numbered apart a.tip) k d h in
      let met = filter_passes (is_met directed v u a.tip) (copies_of entries a.tip) k d h in
      (omega arith, omega arith, λ edge. met_up directed v u a.tip _ edge (up edge) own there met))

  of_copy : (v u : ℕ) → Own entries v u → All (Rises directed u (u + 1)) (events_of_copy g entries directed v u)
  of_copy v u own = search (rules, All-flat_map, of_arc, taken_up)

  of_copies : (v : ℕ) → All (Rises directed (first_copy entries v) (first_copy entries (v + 1))) (events_of_copies g entries directed v)
  of_copies v =
      All-flat_map (Rises directed (first_copy entries v) (first_copy entries (v + 1))) (events_of_copy g entries directed v) (copies_of entries v)
      (λ k d h.
      let u = get_or (copies_of entries v) k d in
      let own = all_own entries numbered apart v k d h in
      All-weaker (Rises directed u (u + 1)) (Rises directed (first_copy entries v) (first_copy entries (v + 1)))
      (λ e r. rises_wider directed (first_copy entries v) (first_copy entries (v + 1)) u (u + 1) e own.0 (omega (arith, own.1)) r)
      (events_of_copy g entries directed v u) (of_copy v u own))

  -- those from the copies of v that are left
  pub copies_left : (self multi : Bool) (v : ℕ) → flat_map (copy_part self multi g entries directed v) (copies_of entries v) ≡ vertex_part self multi g entries directed v
  copies_left self multi v =
      let start = copies_start entries v in
      let count = option_map_or count_by (slice_get entries v) 0 in
      rw (copies-range entries v)
      (merged_rising self multi directed (events_of_copy g entries directed v) (λ u. u) start count
      (λ u low high. of_copy v u (own_copy entries numbered apart v u (rw (copies-range entries v) (Contains-range start count u low high))))
      (λ u w less. omega (arith, less)))

  -- those between all copies that are left
  pub between_left : (self multi : Bool) → flat_map (vertex_part self multi g entries directed) (places_of g)
      ≡ merged_unless multi directed (wanted self (events_between g entries directed))
  between_left self multi = merged_rising self multi directed (events_of_copies g entries directed) (first_copy entries) 0 (order_of g) (λ v low high. of_copies v) (firsts_up entries)

  -- no event between copies joins two of v
  abbrev Leaves : ℕ → Event → Type 0
  Leaves v f = Own entries v f.from → Own entries v f.to → ⊥

  no_loop : (v w : ℕ) (a : Link) → list_any (λ l. l.tip == v) (taken directed g v) ≡ false → Contains (taken directed g w) a → w ≡ v → a.tip ≡ v → ⊥
  no_loop v w a none has same loop = grind (arith, both_ways, list_any_at, eq-eqb)

  between_leaves : (v : ℕ) → list_any (λ l. l.tip == v) (taken directed g v) ≡ false → All (Leaves v) (events_between g entries directed)
  between_leaves v none =
      All-flat_map (Leaves v) (events_of_copies g entries directed) (places_of g)
      (λ i x h. All-flat_map (Leaves v) (events_of_copy g entries directed _) (copies_of entries _)
      (λ j y m. All-flat_map (Leaves v) (events_of_arc entries directed _ _) (taken directed g _)
      (λ n z o. All-map (Leaves v) (event_between _ _) (copies_met entries directed _ _ _)
      (λ k d q from to. no_loop v _ _ none (All-contains_itself (taken directed g _) n z o) (own_same entries v _ _ from (all_own entries numbered apart _ j y m))
      (own_same entries v _ _ to (All-filter (is_met directed _ _ _) (Own entries _) (copies_of entries _) (all_own entries numbered apart _) k d q))))))

  -- an event inside the copies of v has not the ends of one that leaves them
  inside_apart : (v : ℕ) (e f : Event) → Inside (first_copy entries v) (first_copy entries (v + 1)) e → Leaves v f → has_ends_of directed e f ≡ false
  inside_apart v e f inside leaves = search (rules, never_true, ends)

  -- the events inside the entry of v have not the ends of those between copies
  entry_apart : (self : Bool) (v : ℕ) (e : Entry) → has_loop_inside g directed v e ≡ false → All (Inside (first_copy entries v) (first_copy entries (v + 1))) (inner_events directed (first_copy entries v) e)
      → AreApart directed (inner_events directed (first_copy entries v) e) (wanted self (events_between g entries directed))
  entry_apart self v (entry.Graph inner) none inside = λ k d h j y m.
      inside_apart v (get_or (inner_events directed (first_copy entries v) (entry.Graph inner)) k d) (get_or (wanted self (events_between g entries directed)) j y) (inside k d h)
      (All-filter (is_wanted self) (Leaves v) (events_between g entries directed) (between_leaves v none) j y m)
  entry_apart self v e none inside = search (rules, All-nil)

  module _ (kept : All IsKeptEntry entries) (loops : has_loops_inside g entries directed ≡ false) where
    at_apart : (self : Bool) (v : ℕ) → AreApart directed (inside_at entries directed v) (wanted self (events_between g entries directed))
    at_apart self v = by_option (slice_get entries v) refl (at_inside entries directed kept v)
      where
        by_option : (o : Option Entry) → slice_get entries v ≡ o → All (Inside (first_copy entries v) (first_copy entries (v + 1))) (option_map_or (inner_events directed (first_copy entries v)) o [])
            → AreApart directed (option_map_or (inner_events directed (first_copy entries v)) o []) (wanted self (events_between g entries directed))
        by_option None here inside = All-nil (λ e. All (λ f. has_ends_of directed e f ≡ false) (wanted self (events_between g entries directed)))
        by_option (Some e) here inside =
            let place : 0 + v ≡ v = omega arith in
            entry_apart self v e (subst (λ i. has_loop_inside g directed i e ≡ false) place (none_at (has_loop_inside g directed) 0 entries v e loops here)) inside

    -- the events that are left are those inside the entries and then those between copies
    pub both_left : (self multi : Bool)
        → merged_unless multi directed (wanted self (events_within entries directed)) ++ merged_unless multi directed (wanted self (events_between g entries directed))
        ≡ induced_events g entries self multi directed
    both_left self multi =
        let others = wanted self (events_between g entries directed) in
        let all = All-flat_map (λ e. All (λ f. has_ends_of directed e f ≡ false) others) (inside_at entries directed) (range_with_len 0 (length entries)) (λ k d h. at_apart self _) in
        rw (within_places entries directed kept, filter-append (is_wanted self) (flat_map (inside_at entries directed) (range_with_len 0 (length entries))) (events_between g entries directed))
        (sym (merged_both multi directed _ others (All-filter (is_wanted self) (λ e. All (λ f. has_ends_of directed e f ≡ false) others) _ all)))

-- the events from copy u for arcs are between vertices of the result
pub arcs_within : (entries : List Entry) (directed : Bool) (numbered : list_any is_unnumbered entries ≡ false) (self : Bool) (v u : ℕ) (arcs : List Link) → u < total_of entries
    → AllWithin (total_of entries) (wanted self (flat_map (events_of_arc entries directed v u) arcs))
arcs_within entries directed numbered self v u arcs below =
    All-filter (is_wanted self) (HasEndsBelow (total_of entries)) (flat_map (events_of_arc entries directed v u) arcs) (events_of_arcs_within entries directed numbered v u arcs below)

-- of no events none are left
pub none_left : (multi directed : Bool) → merged_unless multi directed [] ≡ []
unfolding merged
none_left multi directed = grind (arith)

-- so none are inside an entry that is no graph
no_events : (directed : Bool) (start : ℕ) (e : Entry) → inner_graph e ≡ None → inner_events directed start e ≡ []
no_events directed start e h = grind arith

pub none_inside : (self multi directed : Bool) (start : ℕ) (e : Entry) (g : GraphData) → inner_graph e ≡ None → AddsEvents directed g g (merged_unless multi directed (wanted self (inner_events directed start e)))
none_inside self multi directed start e g h =
    subst (AddsEvents directed g g) (sym (ap (λ es. merged_unless multi directed (wanted self es)) (no_events directed start e h) ∙ none_left multi directed)) (adds-none directed g)

-- an entry of which a graph is read is that graph
pub graph_there : (e : Entry) (inner : GraphData) → inner_graph e ≡ Some inner → e ≡ entry.Graph inner
graph_there e inner h = grind arith
