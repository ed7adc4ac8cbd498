-- Arcs of which no two lead to one vertex: the events for them from a copy have different ends, so none are merged.
use Rattle.sgb_vec.proofs.Common.{rules, ◌≡◌, ◌≢◌, ◌<◌, ◌+◌, ◌==◌, ◌&&◌, ◌||◌, ℕ, ℤ, Bool, true, false, not, List, [], ◌∷◌, ◌++◌, length, map, get_or, refl, sym, ap, subst, ◌∙◌, arith, All, AllPairs, Contains, filter, flat_map, list_any, range_with_len, slice_get, option_map_or, cases_Bool, eq-eqb, ne_eqb, and_parts, list_any_at, All-map, All-filter, AllPairs-filter, length-range_with_len, get_or-range_with_len}
use Rattle.sgb_vec.proofs.Lists.{All-flat_map, filter-all, AllPairs-none, AllPairs-map, AllPairs-append, never_true}
use Rattle.sgb_graph.specs.Events.{Event}
use Rattle.sgb_graph.specs.declared.fields.Link.{Link}
use Rattle.sgb_ops.specs.declared.induced_graphs.entries.Entry.{Entry}
use Rattle.sgb_ops.specs.Entries.{copies_of, is_unnumbered, merged_count}
use Rattle.sgb_ops.specs.Merged.{has_ends_of, merged_unless}
use Rattle.sgb_ops.specs.inner.Copies.{copies_start, count_by}
use Rattle.sgb_ops.specs.inner.Induced.{are_few_apart, copies_met, event_between, events_of_arc, is_met, is_wanted, lead_apart, wanted}
use Rattle.sgb_ops.proofs.Apart.{merged_unless_same}
use Rattle.sgb_ops.proofs.Ends.{ends}
use Rattle.sgb_ops.proofs.EntryTotals.{copies-range}
use Rattle.sgb_ops.proofs.InducedParts.{Own, all_own, own_copy, own_same}
use Rattle.sgb_ops.proofs.Merging.{apart}

-- two events from one vertex to two have different ends
from_one : (edges : Bool) (u : ℕ) (e f : Event) → e.from ≡ u → f.from ≡ u → e.to ≢ f.to → has_ends_of edges e f ≡ false
from_one edges u e f one two other = grind (arith, never_true, ends)

-- an event between two vertices is no loop
no_loop : (self : Bool) (u t : ℕ) (far : ℤ) → u ≢ t → is_wanted self (event_between u far t) ≡ true
no_loop self u t far other = grind (arith, ne_eqb)

-- an arc that leads apart from others leads to the vertex of none of them
tip_apart : (a : Link) (arcs : List Link) (k : ℕ) (d : Link) → k < length arcs → not (list_any (λ l. l.tip == a.tip) arcs) ≡ true → (get_or arcs k d).tip ≢ a.tip
tip_apart a arcs k d below none = grind (arith, list_any_at, eq-eqb)

module _ (entries : List Entry) (directed : Bool) (numbered : list_any is_unnumbered entries ≡ false) (own : merged_count entries ≡ 0) (edges : Bool) (v u : ℕ) where
  -- the event comes from u, and leads to a copy of vertex w
  abbrev IsTo : ℕ → Event → Type 0
  IsTo w e = (e.from ≡ u) × Own entries w e.to

  of_arc : (a : Link) → All (IsTo a.tip) (events_of_arc entries directed v u a)
  of_arc a =
      All-map (IsTo a.tip) (event_between u a.len) (copies_met entries directed v u a.tip)
      (λ k d h. (refl, All-filter (is_met directed v u a.tip) (Own entries a.tip) (copies_of entries a.tip) (all_own entries numbered own a.tip) k d h))

  -- where it leads to another vertex they are those to all copies of that, and all of them are wanted
  pub to_all : (self : Bool) (a : Link) → a.tip ≢ v → Contains (copies_of entries v) u → wanted self (events_of_arc entries directed v u a) ≡ map (event_between u a.len) (copies_of entries a.tip)
  to_all self a other copy =
      let met = filter-all (is_met directed v u a.tip) (copies_of entries a.tip) (λ k d h. grind (arith, eq-eqb, other)) in
      ap (λ ts. wanted self (map (event_between u a.len) ts)) met
      ∙ filter-all (is_wanted self) (map (event_between u a.len) (copies_of entries a.tip))
      (All-map (λ e. is_wanted self e ≡ true) (event_between u a.len) (copies_of entries a.tip)
      (λ k d h. no_loop self u _ a.len (λ same. other (own_same entries v a.tip _ (subst (Own entries v) same (own_copy entries numbered own v u copy)) (all_own entries numbered own a.tip k d h)))))

  -- those for one arc
  in_range : (far : ℤ) (start count : ℕ) → AllPairs (λ s t. apart edges (event_between u far s) (event_between u far t)) (range_with_len start count)
  in_range far start count = λ i j d less below.
      from_one edges u (event_between u far (get_or (range_with_len start count) i d)) (event_between u far (get_or (range_with_len start count) j d)) refl refl
      (λ same. omega (arith, less, below, same, length-range_with_len start count, get_or-range_with_len start count i d, get_or-range_with_len start count j d))

  for_one : (a : Link) → AllPairs (apart edges) (events_of_arc entries directed v u a)
  for_one a =
      AllPairs-map (apart edges) (event_between u a.len) (copies_met entries directed v u a.tip)
      (AllPairs-filter (λ s t. apart edges (event_between u a.len s) (event_between u a.len t)) (is_met directed v u a.tip) (copies_of entries a.tip)
      (rw (copies-range entries a.tip) (in_range a.len (copies_start entries a.tip) (option_map_or count_by (slice_get entries a.tip) 0))))

  -- those for two arcs
  to_others : (w x : ℕ) (e f : Event) → x ≢ w → IsTo w e → IsTo x f → has_ends_of edges e f ≡ false
  to_others w x e f other one two =
      from_one edges u e f one.0 two.0 (λ same. other (own_same entries w x f.to (grind (arith, one.1, same)) two.1))

  for_two : (a b : Link) → b.tip ≢ a.tip → All (λ e. All (apart edges e) (events_of_arc entries directed v u b)) (events_of_arc entries directed v u a)
  for_two a b other = λ k d h j c m. to_others a.tip b.tip (get_or (events_of_arc entries directed v u a) k d) (get_or (events_of_arc entries directed v u b) j c) other (of_arc a k d h) (of_arc b j c m)

  -- those for all arcs
  for_all : (arcs : List Link) → lead_apart arcs ≡ true → AllPairs (apart edges) (flat_map (events_of_arc entries directed v u) arcs)
  for_all [] is = AllPairs-none (apart edges)
  for_all (a ∷ arcs) is =
      let (first, others) = and_parts (not (list_any (λ l. l.tip == a.tip) arcs)) (lead_apart arcs) is in
      AllPairs-append (apart edges) (events_of_arc entries directed v u a) (flat_map (events_of_arc entries directed v u) arcs) (for_one a) (for_all arcs others)
      (λ k d h. All-flat_map (apart edges (get_or (events_of_arc entries directed v u a) k d)) (events_of_arc entries directed v u) arcs
      (λ j b m. for_two a (get_or arcs j b) (tip_apart a arcs j b m first) k d h))

-- so they are the same as where parallel ones are wanted
module _ (entries : List Entry) (directed : Bool) (numbered : list_any is_unnumbered entries ≡ false) (own : merged_count entries ≡ 0) (self multi : Bool) (v u : ℕ) (arcs : List Link) where
  abbrev events : List Event
  events = wanted self (flat_map (events_of_arc entries directed v u) arcs)

  none_merged : are_few_apart arcs ≡ true → merged_unless multi directed events ≡ events
  none_merged is =
      merged_unless_same multi directed events
      (λ edges. AllPairs-filter (apart edges) (is_wanted self) (flat_map (events_of_arc entries directed v u) arcs)
      (for_all entries directed numbered own edges v u arcs (and_parts _ (lead_apart arcs) is).1))

  pub merged_where_few : merged_unless (multi || are_few_apart arcs) directed events ≡ merged_unless multi directed events
  merged_where_few = by (are_few_apart arcs) refl where
    by : (b : Bool) → are_few_apart arcs ≡ b → merged_unless (multi || b) directed events ≡ merged_unless multi directed events
    by true is = grind (arith, none_merged, is)
    by false is = grind arith
