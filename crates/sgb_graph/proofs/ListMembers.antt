-- What stands on the list of a vertex: the records that start there.
use Rattle.sgb_vec.proofs.Common.{◌≡◌, ◌≢◌, get_or, ◌+◌, ◌-◌, ◌≤◌, ◌==◌, ℕ, zero, suc, Bool, List, [], ◌∷◌, ◌++◌, length, Some, count_by, refl, ap, sym, ◌∙◌, inl, inr, arith, slice_get, All, AllPairs, Contains, filter, AllPairs-cons, slice_get_within, cases_eq, cases_lt, length-append, Contains-get_or, filter-append, Contains-append_left, Contains-append_right, Contains-append_cases, count_by-le-length, length-filter}
use Rattle.sgb_vec.proofs.Lists.{AllPairs-append, Contains-cases, Contains-first, Contains-none, Contains-other}
use Rattle.sgb_graph.specs.Events.{Event, Record, all_records, links_at, list_from, list_of, records_of}
use Rattle.sgb_graph.specs.Growth.{link}
use Rattle.sgb_graph.specs.declared.fields.Link.{Link}
use Rattle.sgb_vec.proofs.Lists.{slice_get-left}
use Rattle.sgb_graph.proofs.Lists.{slice_get-prefix, slice_get-after}
use Rattle.sgb_graph.proofs.EventLemmas.{list_none, list_first, link_here, no_link_here, record_from}

-- each record that starts at a vertex has its link there
each_link : (k j : ℕ) (records : List Record) (r : Record) → slice_get records j ≡ Some r → Contains (links_at r.start k records) (link (k + j) r.tip r.len)
each_link k j [] r is = absurd cc
each_link k zero (a ∷ records) r is = grind (arith, Contains-first, link_here)
each_link k (suc j) (a ∷ records) r is =
    let place : k + 1 + j ≡ k + suc j = omega arith in
    let later = rw place at (each_link (k + 1) j records r is) in
    elim (cases_eq r.start a.start) [
      | inl same ↦ rw (link_here r.start k a records same) (Contains-other (link k a.tip a.len) _ _ later)
      | inr other ↦ rw (no_link_here r.start k a records other) later
    ]

-- and a link is that of a record
record IsRecordAt (k v : ℕ) (records : List Record) (l : Link) : Type 0 where
  place : ℕ
  number : l.number ≡ k + place
  is : slice_get records place ≡ Some (record_from v l.tip l.len)

-- the same with a record in front
record_after : (k v : ℕ) (a : Record) (records : List Record) (l : Link) → IsRecordAt (k + 1) v records l → IsRecordAt k v (a ∷ records) l
record_after k v a records l at = record { place = suc at.place; number = omega (arith, at.number); is = at.is }

-- so each link is
only_link : (k v : ℕ) (records : List Record) (l : Link) → Contains (links_at v k records) l → IsRecordAt k v records l
only_link k v [] l has = absurd (Contains-none l has)
only_link k v (a ∷ records) l has = grind (arith, cases_eq, Contains-cases, link_here, no_link_here, record_after, only_link (k + 1) v records l)

-- as many links as records
count_link : (k v : ℕ) (records : List Record) → length (links_at v k records) ≡ length (filter (λ r. r.start == v) records)
count_link k v [] = refl
count_link k v (a ∷ records) = grind (arith, length-append, count_link (k + 1) v records)

-- each record of the events is on the list where it starts
each_from : (directed : Bool) (k : ℕ) (events : List Event) (j : ℕ) (r : Record) → slice_get (all_records directed events) j ≡ Some r → Contains (list_from directed k events r.start) (link (k + j) r.tip r.len)
each_from directed k [] j r is = absurd cc
each_from directed k (e ∷ events) j r is =
    let own = records_of directed e in
    let later = all_records directed events in
    rw (list_first directed k e events r.start)
    (elim (cases_lt j (length own)) [
      | inl low ↦ Contains-append_right _ _ _ (each_link k j own r (sym (slice_get-prefix own later j low) ∙ is))
      | inr high ↦
          let place : length own + (j - length own) ≡ j = omega arith in
          let number : k + length own + (j - length own) ≡ k + j = omega arith in
          let there = each_from directed (k + length own) events (j - length own) r (sym (slice_get-after own later (j - length own)) ∙ (ap (slice_get (own ++ later)) place ∙ is)) in
          Contains-append_left _ _ _ (rw number at there)
    ])

-- and nothing else
only_from : (directed : Bool) (k : ℕ) (events : List Event) (v : ℕ) (l : Link) → Contains (list_from directed k events v) l → IsRecordAt k v (all_records directed events) l
only_from directed k [] v l has = absurd (Contains-none l (rw (list_none directed k v) at has))
only_from directed k (e ∷ events) v l has =
    let own = records_of directed e in
    let later = all_records directed events in
    elim (Contains-append_cases (list_from directed (k + length own) events v) (links_at v k own) l (rw (list_first directed k e events v) at has)) [
      | inl there ↦
          let at = only_from directed (k + length own) events v l there in
          record { place = length own + at.place; number = omega (arith, at.number); is = slice_get-after own later at.place ∙ at.is }
      | inr here ↦ let at = only_link k v own l here in record { place = at.place; number = at.number; is = slice_get-left own later at.place _ at.is }
    ]

-- as many as start there
once_from : (directed : Bool) (k : ℕ) (events : List Event) (v : ℕ) → length (list_from directed k events v) ≡ length (filter (λ r. r.start == v) (all_records directed events))
once_from directed k [] v = ap length (list_none directed k v)
once_from directed k (e ∷ events) v = grind (arith, list_first, length-append, filter-append, count_link, once_from directed (k + length (records_of directed e)) events v)

-- the same of the lists as they stand
pub each_on_list : (directed : Bool) (events : List Event) (k : ℕ) (r : Record) → slice_get (all_records directed events) k ≡ Some r → Contains (list_of directed events r.start) (link k r.tip r.len)
each_on_list directed events k r is =
    let place : 0 + k ≡ k = omega arith in
    rw place at (each_from directed 0 events k r is)

-- nothing else is there
pub only_on_list : (directed : Bool) (events : List Event) (v : ℕ) (l : Link) → Contains (list_of directed events v) l → slice_get (all_records directed events) l.number ≡ Some (record_from v l.tip l.len)
only_on_list directed events v l has =
    let at = only_from directed 0 events v l has in
    let place : l.number ≡ at.place = omega (arith, at.number) in
    rw place at.is

-- and each is there once
pub once_on_list : (directed : Bool) (events : List Event) (v : ℕ) → length (list_of directed events v) ≡ count_by (λ r. r.start == v) (all_records directed events)
once_on_list directed events v = once_from directed 0 events v ∙ length-filter (λ (r : Record). r.start == v) (all_records directed events)

-- two arcs of different numbers
abbrev pub AreApart : Link → Link → Type 0
AreApart l m = l.number ≢ m.number

-- what holds of each element of a list
all_from_contains : {X : Type 0} (P : X → Type 0) (xs : List X) → ((x : X) → Contains xs x → P x) → All P xs
all_from_contains P xs each k d below = each (get_or xs k d) (Contains-get_or xs k d below)

-- the links of records have different numbers
links_apart : (k v : ℕ) (records : List Record) → AllPairs AreApart (links_at v k records)
links_apart k v [] = λ i j d less below. absurd (omega arith)
links_apart k v (a ∷ records) =
    let high = all_from_contains (AreApart (link k a.tip a.len)) (links_at v (k + 1) records) (λ m has same. omega (arith, (only_link (k + 1) v records m has).number, same)) in
    grind (arith, cases_eq, AllPairs-cons, link_here, no_link_here, high, links_apart (k + 1) v records)

-- so do those of a list
apart_from : (directed : Bool) (k : ℕ) (events : List Event) (v : ℕ) → AllPairs AreApart (list_from directed k events v)
apart_from directed k [] v = rw (list_none directed k v) (links_apart k v [])
apart_from directed k (e ∷ events) v =
    let own = records_of directed e in
    let here = links_at v k own in
    let others = list_from directed (k + length own) events v in
    let across : (l m : Link) → Contains others l → Contains here m → AreApart l m = λ l m has is same.
    let late = only_from directed (k + length own) events v l has in
    let early = only_link k v own m is in
    let inside = slice_get_within own early.place (record_from v m.tip m.len) early.is in
    omega (arith, late.number, early.number, inside, same) in
    rw (list_first directed k e events v)
    (AllPairs-append AreApart others here (apart_from directed (k + length own) events v) (links_apart k v own)
    (all_from_contains (λ l. All (AreApart l) here) others (λ l has. all_from_contains (AreApart l) here (λ m is. across l m has is))))

pub apart_on_list : (directed : Bool) (events : List Event) (v : ℕ) → AllPairs AreApart (list_of directed events v)
apart_on_list directed events v = apart_from directed 0 events v

-- and the list is no longer than there are records
pub short_list : (directed : Bool) (events : List Event) (v : ℕ) → length (list_of directed events v) ≤ length (all_records directed events)
short_list directed events v = omega (arith, once_on_list directed events v, count_by-le-length (λ (r : Record). r.start == v) (all_records directed events))
