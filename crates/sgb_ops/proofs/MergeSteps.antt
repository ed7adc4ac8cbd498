-- Events that are merged one by one.
use Rattle.sgb_vec.proofs.Common.{rules, ◌≡◌, ℕ, suc, Bool, true, false, not, List, [], ◌∷◌, ◌++◌, map, set, get_or, append-nil, refl, sym, ◌∙◌, inl, inr, arith, filter, list_any, position_or_len, cases_Bool, or_parts, map_push, filter-append, fold-append}
use Rattle.sgb_graph.specs.Events.{Event}
use Rattle.sgb_taken.specs.inner.Ends.{ends_key, shortened}
use Rattle.sgb_ops.specs.inner.Ends.{with_event}
use Rattle.sgb_ops.specs.Merged.{has_ends_of, merged}
use Rattle.sgb_ops.specs.inner.Merged.{with_least_length}
use Rattle.sgb_ops.proofs.Ends.{has_same_pair, key_tells, ends_joined, ends_turned}

-- the event has not the ends of a
abbrev is_other : Bool → Event → Event → Bool
is_other directed a f = not (has_ends_of directed a f)

-- one more of them
longer : (directed : Bool) (a e : Event) (events : List Event) → has_ends_of directed a e ≡ true → with_least_length directed a (events ++ e ∷ []) ≡ shortened (with_least_length directed a events) e
longer directed a e events same = grind (arith, filter-append, map_push, fold-append)

-- or one of others
as_long : (directed : Bool) (a e : Event) (events : List Event) → has_ends_of directed a e ≡ false → with_least_length directed a (events ++ e ∷ []) ≡ with_least_length directed a events
as_long directed a e events other = search (rules, filter-append, append-nil)

-- of the events without those that have the ends of a: one more that has them changes nothing
same_others : (directed : Bool) (a e : Event) (events : List Event) → has_ends_of directed a e ≡ true → filter (is_other directed a) (with_event directed events e) ≡ filter (is_other directed a) events
same_others directed a e [] same = rw same refl
same_others directed a e (f ∷ events) same = grind (arith, cases_Bool, ends_joined, ends_turned, same_others directed a e events same)

-- one more that has them not is put among them
more_others : (directed : Bool) (a e : Event) (events : List Event) → has_ends_of directed a e ≡ false → filter (is_other directed a) (with_event directed events e) ≡ with_event directed (filter (is_other directed a) events) e
more_others directed a e [] other = rw other refl
more_others directed a e (f ∷ events) other = grind (arith, cases_Bool, ends_joined, more_others directed a e events other)

-- merged events and one more
pub merged_more : (directed : Bool) (events : List Event) (e : Event) → merged directed (events ++ e ∷ []) ≡ with_event directed (merged directed events) e
unfolding merged
merged_more directed [] e = refl
merged_more directed (a ∷ events) e = grind (arith, cases_Bool, longer, same_others, as_long, more_others, merged_more directed events e)

-- some of the keys is that of e
abbrev pub has_key : Bool → List Event → Event → Bool
has_key directed left e = list_any (has_same_pair (ends_key directed e)) (map (ends_key directed) left)

-- events of which none has the ends of this one: it comes last
pub put_last : (directed : Bool) (left : List Event) (e : Event) → has_key directed left e ≡ false → with_event directed left e ≡ left ++ e ∷ []
put_last directed [] e none = refl
put_last directed (f ∷ left) e none = grind (arith, key_tells, or_parts, put_last directed left e)

-- else it shortens the one at the place of its key
pub put_there : (directed : Bool) (left : List Event) (e x : Event) (i : ℕ) → has_key directed left e ≡ true
    → i ≡ position_or_len (has_same_pair (ends_key directed e)) (map (ends_key directed) left) → x ≡ get_or left i x
    → set left i (shortened x e) ≡ with_event directed left e
put_there directed [] e x i has place at = absurd cc
put_there directed (f ∷ left) e x i has place at =
    elim (cases_Bool (has_same_pair (ends_key directed e) (ends_key directed f))) [
      | inl is ↦ grind (arith, key_tells)
      | inr is ↦
          let rest = position_or_len (has_same_pair (ends_key directed e)) (map (ends_key directed) left) in
          let after : i ≡ suc rest = omega (arith, rw is at place) in
          let there : x ≡ get_or left rest x = rw after at at in
          rw (after, sym (key_tells directed f e) ∙ is, put_there directed left e x rest (rw is at has) refl there) refl
    ]

-- a shortened event keeps its key
key_stays : (directed : Bool) (f e : Event) → ends_key directed (shortened f e) ≡ ends_key directed f
key_stays directed f e = grind (arith)

-- and so the keys stay
pub keys_stay : (directed : Bool) (left : List Event) (e : Event) → has_key directed left e ≡ true → map (ends_key directed) (with_event directed left e) ≡ map (ends_key directed) left
keys_stay directed [] e has = absurd cc
keys_stay directed (f ∷ left) e has = grind (arith, cases_Bool, key_tells, key_stays, keys_stay directed left e)
