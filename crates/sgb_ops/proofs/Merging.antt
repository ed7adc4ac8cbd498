-- What is known of merged events.
use Rattle.sgb_vec.proofs.Common.{◌≡◌, ◌+◌, ◌≤ℤ◌, ℕ, ℤ, pos, Bool, true, false, not, ◌||◌, List, [], ◌∷◌, ◌++◌, map, take, length, fold, refl, sym, ap, ◌∙◌, subst, inl, inr, arith, rules, All, AllPairs, Contains, filter, flat_map, if◌then◌else◌, list_any, enumerate_from, cases_Bool, not-true, not_from_false, fold-int_min_bounds, fold-int_min_reached, append_assoc, length-append, take_at, All-nil, All-cons, All-head, All-tail, All-contains, All-filter, All-contains_itself, filter_passes, filter-append, AllPairs-filter, AllPairs-cons, int_min}
use Rattle.sgb_vec.proofs.Lists.{Contains-first, Contains-other, Contains-none, Contains-cases, Contains-image, Contains-passing, same_tests}
use Rattle.sgb_graph.specs.Events.{Event}
use Rattle.sgb_ops.specs.Merged.{has_ends_of, merged, named_ends, first_ones, IsShortest}
use Rattle.sgb_ops.specs.inner.Merged.{with_least_length}
use Rattle.sgb_ops.proofs.Ends.{own_ends, ends_turned, ends_joined}

-- the events do not have the same ends
abbrev pub apart : Bool → Event → Event → Type 0
apart directed e f = has_ends_of directed e f ≡ false

-- events without those that have the ends of e
others : (directed : Bool) (e : Event) (events : List Event) → All (apart directed e) (filter (λ f. not (has_ends_of directed e f)) events)
others directed e events = λ k d h. not-true _ (filter_passes (λ f. not (has_ends_of directed e f)) events k d h)

-- what holds of events whatever their length holds of merged ones
pub merged_keeps : (P : Event → Type 0) → ((e : Event) (far : ℤ) → P e → P (record e { len = far })) → (directed : Bool) (events : List Event) → All P events → All P (merged directed events)
unfolding merged
merged_keeps P same directed [] all = All-nil P
merged_keeps P same directed (e ∷ events) all = search (rules, All-cons, All-head, All-filter, All-tail, with_least_length, has_ends_of, merged, merged_keeps P same directed events (All-tail P e events all))

-- no two merged events have the same ends
pub merged_apart : (directed : Bool) (events : List Event) → AllPairs (apart directed) (merged directed events)
unfolding merged
merged_apart directed [] = λ i j d h k. absurd (omega (arith, h, k))
merged_apart directed (e ∷ events) = search (rules, AllPairs-cons, apart, others, AllPairs-filter, with_least_length, merged, has_ends_of, merged_apart directed events)

-- the element that a made one was made of
made_of : {X Y : Type 0} (f : X → Y) (xs : List X) (y : Y) → Contains (map f xs) y → (x : X) × Contains xs x × (f x ≡ y)
made_of f [] y has = absurd (Contains-none y has)
made_of f (a ∷ xs) y has = grind (arith, Contains-cases, Contains-first, Contains-other, made_of f xs y)

-- a fact on what is made of the elements that pass a test
below_kept : (p : Event → Bool) (r : ℤ) (events : List Event) → All (λ x. r ≤ℤ x) (map (λ (f : Event). f.len) (filter p events)) → All (λ f. p f ≡ true → r ≤ℤ f.len) events
below_kept p r events all = λ k d h kept.
    All-contains (λ y. r ≤ℤ y) (map (λ (f : Event). f.len) (filter p events)) _ all
    (Contains-image (λ (f : Event). f.len) (filter p events) _ (Contains-passing p events _ kept (All-contains_itself events k d h)))

-- the first of merged events is as short as the shortest with its ends
first_is_shortest : (directed : Bool) (e : Event) (events : List Event) → IsShortest directed (e ∷ events) (with_least_length directed e events)
first_is_shortest directed e events =
    let like = filter (has_ends_of directed e) events in
    let lengths = map (λ (f : Event). f.len) like in
    let shortest = fold int_min e.len lengths in
    let bounds : (shortest ≤ℤ e.len) × All (λ x. shortest ≤ℤ x) lengths = fold-int_min_bounds e.len lengths shortest refl in
    record {
      one = elim (fold-int_min_reached e.len lengths shortest refl) [
        | inl own ↦ (e, Contains-first e events, own_ends directed e, sym own)
        | inr among ↦
            let of = made_of (λ (f : Event). f.len) like shortest among in (
              of.0,
              Contains-other e of.0 events (All-contains (Contains events) like of.0 (All-filter (has_ends_of directed e) (Contains events) events (All-contains_itself events)) of.1),
              All-contains (λ f. has_ends_of directed e f ≡ true) like of.0 (filter_passes (has_ends_of directed e) events) of.1,
              of.2,
            )
      ];
      least = All-cons (λ f. has_ends_of directed e f ≡ true → shortest ≤ℤ f.len) e events (λ h. bounds.0) (below_kept (has_ends_of directed e) shortest events bounds.1);
    }

-- one that stays so with an event in front that has not its ends
stays_shortest : (directed : Bool) (e : Event) (events : List Event) (f : Event) → apart directed e f → IsShortest directed events f → IsShortest directed (e ∷ events) f
stays_shortest directed e events f other short = grind (arith, Contains-other, All-cons, ends_turned)

pub merged_shortest : (directed : Bool) (events : List Event) → All (IsShortest directed events) (merged directed events)
unfolding merged
merged_shortest directed [] = All-nil (IsShortest directed [])
merged_shortest directed (e ∷ events) =
    let rest = merged directed events in
    All-cons (IsShortest directed (e ∷ events)) _ _ (first_is_shortest directed e events)
    (λ k d h. stays_shortest directed e events _ (others directed e rest k d h)
    (All-filter (λ f. not (has_ends_of directed e f)) (IsShortest directed events) rest (merged_shortest directed events) k d h))

-- each event has its ends in one of them
pub merged_has_each : (directed : Bool) (events : List Event) (e : Event) → Contains events e → (f : Event) × Contains (merged directed events) f × (has_ends_of directed e f ≡ true)
unfolding merged
merged_has_each directed [] e has = absurd (Contains-none e has)
merged_has_each directed (a ∷ events) e has =
    let first = with_least_length directed a events in
    let rest = filter (λ f. not (has_ends_of directed a f)) (merged directed events) in
    elim (Contains-cases a e events has) [
      | inl here ↦ (first, Contains-first first rest, subst (λ x. has_ends_of directed x a ≡ true) here (own_ends directed a))
      | inr there ↦
          let (f, among, same) = merged_has_each directed events e there in
          elim (cases_Bool (has_ends_of directed a f)) [
            | inl like ↦ (first, Contains-first first rest, ends_joined directed e f a same (ends_turned directed a f like))
            | inr other ↦ (f, Contains-other first f rest (Contains-passing (λ x. not (has_ends_of directed a x)) (merged directed events) f (not_from_false _ other) among), same)
          ]
    ]

-- the first ones of events that come after others
abbrev firsts_after : Bool → List Event → List Event → List Event
firsts_after directed before [] = []
firsts_after directed before (x ∷ events) =
    (if list_any (has_ends_of directed x) before then [] else x ∷ []) ++ firsts_after directed (before ++ x ∷ []) events

-- these are the first ones, found by their places
first_at_places : (directed : Bool) (all before events : List Event) (k : ℕ) → all ≡ before ++ events → k ≡ length before
    → flat_map (λ p. if list_any (has_ends_of directed p.1) (take p.0 all) then [] else p.1 ∷ []) (enumerate_from k events) ≡ firsts_after directed before events
first_at_places directed all before [] k is place = refl
first_at_places directed all before (x ∷ events) k is place = grind (arith, append_assoc, length-append, take_at, first_at_places directed all (before ++ x ∷ []) events (k + 1) (is ∙ sym (append_assoc before (x ∷ []) events)) (omega (arith, length-append before (x ∷ []))))

-- of the first ones after e those that have not its ends are left
one_less : (directed : Bool) (e x : Event) (b c : Bool) → has_ends_of directed x e ≡ b
    → (if b || c then [] else x ∷ []) ≡ filter (λ f. not (has_ends_of directed e f)) (if c then [] else x ∷ [])
one_less directed e x b c is = grind (arith, same_tests, ends_turned)

firsts_without : (directed : Bool) (e : Event) (before events : List Event)
    → firsts_after directed (e ∷ before) events ≡ filter (λ f. not (has_ends_of directed e f)) (firsts_after directed before events)
firsts_without directed e before [] = refl
firsts_without directed e before (x ∷ events) = grind (arith, one_less, filter-append, firsts_after, firsts_without directed e (before ++ x ∷ []) events)

-- what a test of the ends keeps, seen by the ends
ends_kept : (t : ℕ × ℕ → Bool) (events : List Event) → map named_ends (filter (λ f. t (named_ends f)) events) ≡ filter t (map named_ends events)
ends_kept t [] = refl
ends_kept t (e ∷ events) = grind (arith, cases_Bool, ends_kept t events)

-- an event at the ends
abbrev at_ends : ℕ × ℕ → Event
at_ends p = record { from = p.0; to = p.1; len = pos 0 }

merged_after : (directed : Bool) (events : List Event) → map named_ends (merged directed events) ≡ map named_ends (firsts_after directed [] events)
unfolding merged
merged_after directed [] = refl
merged_after directed (e ∷ events) =
    let t = λ (p : ℕ × ℕ). not (has_ends_of directed e (at_ends p)) in
    grind (arith, firsts_without, t, ends_kept t, merged_after directed events)

-- the ends that are left are those of the first ones
pub merged_first : (directed : Bool) (events : List Event) → map named_ends (merged directed events) ≡ map named_ends (first_ones directed events)
merged_first directed events = merged_after directed events ∙ sym (ap (map named_ends) (first_at_places directed events [] events 0 refl refl))
