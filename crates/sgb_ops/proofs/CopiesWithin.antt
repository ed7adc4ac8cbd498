-- The vertices that entries make: the names of all, and the events between them.
use Rattle.sgb_vec.proofs.Common.{rules, ◌≡◌, ◌<◌, ◌≤◌, ◌+◌, ℕ, Bool, false, List, [], ◌∷◌, length, get_or, refl, arith, All, list_any, range_with_len, enumerate_from, length-append, length-map, get_or_default, All-nil, All-map, All-filter, All-weaker, flat_map, length-range_with_len, length-enumerate_from, get_or-enumerate_from, sum_by-cons, sum_by-take-le}
use Rattle.sgb_vec.proofs.Lists.{All-flat_map, range-within}
use Rattle.sgb_graph.specs.Events.{HasEndsBelow}
use Rattle.sgb_graph.specs.Graphs.{GraphData}
use Rattle.sgb_graph.specs.declared.fields.Link.{Link}
use Rattle.sgb_ops.specs.declared.induced_graphs.entries.Entry.{Entry}
use Rattle.sgb_ops.specs.declared.induced_graphs.entries.Entry.TheVariants as entry
use Rattle.sgb_ops.specs.inner.Copies.{IsKeptEntry}
use Rattle.sgb_ops.specs.inner.Ends.{AllWithin}
use Rattle.sgb_ops.specs.Entries.{copies_of, events_within, first_copy, inner_events, is_unnumbered, names_by_entries, names_of_copies, size_of_entry}
use Rattle.sgb_ops.specs.Induced.{events_between}
use Rattle.sgb_graph.specs.Vertices.{order_of, places_of}
use Rattle.sgb_taken.specs.Taken.{taken}
use Rattle.sgb_ops.specs.inner.Entries.{inner_event, inner_events_from, own_names, own_total, total_of}
use Rattle.sgb_ops.specs.inner.Induced.{events_of_arc, events_of_copies, events_of_copy}
use Rattle.sgb_ops.proofs.EntryTotals.{copies_within, copies-range, total_more}
use Rattle.sgb_ops.proofs.EventsWithin.{events_after_within}
use Rattle.sgb_ops.proofs.ListedEvents.{listed_tips}

-- as many names as vertices
length-names_of_copies : (text : List ℕ) (e : Entry) → length (names_of_copies text e) ≡ size_of_entry e
length-names_of_copies text e = grind (arith, length-map, length-range_with_len)

length-own : (names : List (List ℕ)) (entries : List Entry) → length entries ≡ length names → length (own_names names entries) ≡ own_total entries
length-own [] [] same = refl
length-own (name ∷ names) (e ∷ entries) same = simp (length-append, length-names_of_copies, sum_by-cons, length-own names entries (omega (arith, same)))
length-own _ _ same = absurd (omega (arith, same))

pub length-names : (names : List (List ℕ)) (entries : List Entry) → length entries ≡ length names → length (names_by_entries names entries) ≡ total_of entries
length-names names entries same = search (rules, length-map, length-range_with_len, length-append, length-own)

-- a vertex of n
abbrev Below : ℕ → ℕ → Type 0
Below n u = u < n

-- numbers, of which none is beyond n
range_below : (n a k : ℕ) → a + k ≤ n → All (Below n) (range_with_len a k)
range_below n a k few = All-weaker (λ u. (a ≤ u) × (u < a + k)) (Below n) (λ u p. omega (arith, p.1, few)) (range_with_len a k) (range-within a k)

module _ (entries : List Entry) (directed : Bool) (numbered : list_any is_unnumbered entries ≡ false) where
  -- the copies of a vertex are among those of all
  pub all_copies : (v : ℕ) → All (Below (total_of entries)) (copies_of entries v)
  all_copies v = grind (arith, copies-range, range_below, copies_within)

  of_arc : (v u : ℕ) (a : Link) → u < total_of entries → AllWithin (total_of entries) (events_of_arc entries directed v u a)
  of_arc v u a below = search (rules, All-map, All-filter, all_copies)

  pub of_arcs : (v u : ℕ) (arcs : List Link) → u < total_of entries → AllWithin (total_of entries) (flat_map (events_of_arc entries directed v u) arcs)
  of_arcs v u arcs below = All-flat_map (HasEndsBelow (total_of entries)) (events_of_arc entries directed v u) arcs (λ k d h. of_arc v u (get_or arcs k d) below)

  of_copies : (g : GraphData) (v : ℕ) → AllWithin (total_of entries) (events_of_copies g entries directed v)
  of_copies g v = All-flat_map (HasEndsBelow (total_of entries)) (events_of_copy g entries directed v) (copies_of entries v) (λ k d h. of_arcs v (get_or (copies_of entries v) k d) (taken directed g v) (all_copies v k d h))

  -- the events between copies are between vertices of the result
  pub between_within : (g : GraphData) → AllWithin (total_of entries) (events_between g entries directed)
  between_within g = All-flat_map (HasEndsBelow (total_of entries)) (events_of_copies g entries directed) (places_of g) (λ k d h. of_copies g (get_or (places_of g) k d))

  -- those inside an entry are between its vertices
  inner_within : (start : ℕ) (e : Entry) → start + size_of_entry e ≤ total_of entries → IsKeptEntry e → AllWithin (total_of entries) (inner_events directed start e)
  inner_within start (entry.Graph inner) few kept =
      events_after_within (total_of entries) (inner_events_from directed start inner) 0 (order_of inner)
      (λ w low high.
      let below : w < order_of inner = omega (arith, high) in
      All-map (HasEndsBelow (total_of entries)) (inner_event start w) (taken directed inner w)
      (λ k d h. let tip = listed_tips directed inner w kept below k d h in (omega (arith, few, below), omega (arith, few, tip))))
  inner_within start _ few kept = All-nil (HasEndsBelow (total_of entries))

  -- an entry with its place
  abbrev Fits : ℕ × Entry → Type 0
  Fits p = (first_copy entries p.0 + size_of_entry p.1 ≤ total_of entries) × IsKeptEntry p.1

  all_fit : All IsKeptEntry entries → All Fits (enumerate_from 0 entries)
  all_fit kept = search (rules, length-enumerate_from, total_more, get_or-enumerate_from, sum_by-take-le, get_or_default)

  pub events_inside : All IsKeptEntry entries → AllWithin (total_of entries) (events_within entries directed)
  events_inside kept =
      All-flat_map (HasEndsBelow (total_of entries)) (λ p. inner_events directed (first_copy entries p.0) p.1) (enumerate_from 0 entries)
      (λ k d h. let p = get_or (enumerate_from 0 entries) k d in let fits = all_fit kept k d h in inner_within (first_copy entries p.0) p.1 fits.0 fits.1)
