-- What marks that vertices are given change.
use Rattle.std.proofs.Common.{◌≡◌, ℕ, zero, suc, ◌+◌, ◌<◌, ◌⊎◌, List, [], ◌∷◌, ◌++◌, Option, Some, None, length, map, drop, get_or, set, refl, sym, ap, ◌∙◌, inl, inr, arith, rules}
use Rattle.std.specs.Prelude.{is_none}
use Rattle.std.specs.Iterator.{YieldsFirst}
use Rattle.std.specs.List.{All, Contains, flat_map}
use Rattle.std.proofs.lemmas.Bool.{cases_eq}
use Rattle.std.proofs.lemmas.List.{at_drop_more, get_or-set_same, get_or-set_other, length-append, length-set}
use Rattle.std.proofs.lemmas.List.Elements.{All-head, All-tail, Contains-append_left, Contains-push, Contains-push_cases}
use Rattle.sgb_vec.proofs.Lists.{Contains-cases, Contains-first, Contains-none, Contains-other, steps_to}
use Rattle.sgb_graph.specs.declared.fields.Link.{Link}
use Rattle.sgb_levels.specs.inner.Marks.{Marks, all_marked, marked, marked_if, marks}
use Rattle.sgb_levels.specs.inner.Searches.{IsFoundAt, unmarked}

-- what the mark d, given to these vertices, changes
pub record Marking (d : ℕ) (vs : List ℕ) (old new : Marks) : Type 0 where
  pub size : length new.found ≡ length old.found
  pub kept : (v e : ℕ) → IsFoundAt old.found v e → IsFoundAt new.found v e
  pub fresh : (v e : ℕ) → IsFoundAt new.found v e → IsFoundAt old.found v e ⊎ ((e ≡ d) × Contains vs v × Contains new.next v)
  pub reached : (v : ℕ) → Contains vs v → (e : ℕ) × IsFoundAt new.found v e
  pub waiting : (v : ℕ) → Contains old.next v → Contains new.next v
  pub news : (v : ℕ) → Contains new.next v → Contains old.next v ⊎ IsFoundAt new.found v d
  pub count : unmarked new.found + length new.next ≡ unmarked old.found + length old.next

-- none
marking-none : (d : ℕ) (m : Marks) → Marking d [] m m
marking-none d m = record {
  size = refl;
  kept = λ v e h. h;
  fresh = λ v e h. inl h;
  reached = λ v h. absurd (Contains-none v h);
  waiting = λ v h. h;
  news = λ v h. inl h;
  count = refl;
}

-- a vertex that has a mark keeps it, and then others
marking-kept : (d v e : ℕ) (vs : List ℕ) (m new : Marks) → get_or m.found v None ≡ Some e → Marking d vs m new → Marking d (v ∷ vs) m new
marking-kept d v e vs m new has rest = record {
  size = rest.size;
  kept = rest.kept;
  fresh = λ w f h. search (rules, rest.fresh w f h, Contains-other);
  reached = λ w h. elim (Contains-cases v w vs h) [
    | inl same ↦ (e, rest.kept w e (rw (← same) has))
    | inr later ↦ rest.reached w later
  ];
  waiting = rest.waiting;
  news = rest.news;
  count = rest.count;
}

-- one vertex less has no mark
unmarked-set : (found : List (Option ℕ)) (v d : ℕ) → v < length found → get_or found v None ≡ None → unmarked (set found v (Some d)) + 1 ≡ unmarked found
unmarked-set [] v d within none = absurd (omega arith)
unmarked-set (None ∷ found) zero d within none = omega arith
unmarked-set (Some e ∷ found) zero d within none = absurd cc
unmarked-set (None ∷ found) (suc v) d within none = omega (arith, unmarked-set found v d (omega arith) none)
unmarked-set (Some e ∷ found) (suc v) d within none = unmarked-set found v d (omega arith) none

-- a vertex that has none is given it, and then others
marking-given : (d v : ℕ) (vs : List ℕ) (m new : Marks) → v < length m.found → get_or m.found v None ≡ None
    → Marking d vs (marks (set m.found v (Some d)) (m.next ++ v ∷ [])) new → Marking d (v ∷ vs) m new
marking-given d v vs m new within none rest = record {
  size = rest.size ∙ length-set m.found v (Some d);
  kept = λ w e h. rest.kept w e (grind (arith, get_or-set_same, get_or-set_other, cases_eq w v));
  fresh = λ w e h. elim (rest.fresh w e h) [
    | inl before ↦ elim (cases_eq w v) [
      | inl same ↦ inr (cc own, rw same (Contains-first v vs), rest.waiting w (rw same (Contains-push m.next v)))
      | inr other ↦ inl (sym (get_or-set_other m.found v w (Some d) None other) ∙ before)
    ]
    | inr (is, has, waits) ↦ inr (is, Contains-other v w vs has, waits)
  ];
  reached = λ w h. elim (Contains-cases v w vs h) [
    | inl same ↦ (d, rest.kept w d (rw (← same) own))
    | inr later ↦ rest.reached w later
  ];
  waiting = λ w h. rest.waiting w (Contains-append_left m.next (v ∷ []) w h);
  news = λ w h. elim (rest.news w h) [
    | inl before ↦ elim (Contains-push_cases m.next v w before) [
      | inl old ↦ inl old
      | inr same ↦ inr (rest.kept w d (rw (← same) own))
    ]
    | inr is ↦ inr is
  ];
  count = omega (arith, rest.count, unmarked-set m.found v d within none, length-append m.next (v ∷ []));
}
  where
    own : get_or (set m.found v (Some d)) v None ≡ Some d
    own = get_or-set_same m.found v (Some d) None within

-- all of them
pub marking-all : (d n : ℕ) (vs : List ℕ) (m : Marks) → length m.found ≡ n → All (λ v. v < n) vs → Marking d vs m (all_marked d vs m)
marking-all d n [] m size within = marking-none d m
marking-all d n (v ∷ vs) m size within = by (get_or m.found v None) refl (marking-all d n vs)
  where
    by : (o : Option ℕ) → get_or m.found v None ≡ o → ((old : Marks) → length old.found ≡ n → All (λ k. k < n) vs → Marking d vs old (all_marked d vs old))
        → Marking d (v ∷ vs) m (all_marked d vs (marked_if (is_none o) d v m))
    by None is rest = marking-given d v vs m _ (omega (arith, size, All-head (λ k. k < n) v vs within)) is (rest _ (length-set m.found v (Some d) ∙ size) (All-tail (λ k. k < n) v vs within))
    by (Some e) is rest = marking-kept d v e vs m _ is (rest m size (All-tail (λ k. k < n) v vs within))

-- those of two lists, one after the other
pub all_marked-append : (d : ℕ) (us vs : List ℕ) (m : Marks) → all_marked d (us ++ vs) m ≡ all_marked d vs (all_marked d us m)
all_marked-append d [] vs m = refl
all_marked-append d (u ∷ us) vs m = all_marked-append d us vs (marked d u m)

-- the vertex where the next arc leads is marked, of those that are left
pub tip_marked : (d : ℕ) (left rest : List Link) (r : Option Link) (l : Link) (old new all : Marks) → r ≡ Some l → YieldsFirst (λ x. x) left r rest
    → new ≡ marked d l.tip old → all_marked d (map (λ k. k.tip) left) old ≡ all → all_marked d (map (λ k. k.tip) rest) new ≡ all
tip_marked d left rest r l old new all is steps one whole =
    ap (all_marked d (map (λ k. k.tip) rest)) one ∙ ap (λ ls. all_marked d (map (λ k. k.tip) ls) old) (sym (steps_to left rest r l is steps)) ∙ whole

-- those where the arcs of the next vertex lead are marked, of those that are left
pub vertex_marked : (d : ℕ) (tips : ℕ → List ℕ) (vs : List ℕ) (i e : ℕ) (old new all : Marks) → i < length vs
    → new ≡ all_marked d (tips (get_or vs i e)) old → all_marked d (flat_map tips (drop i vs)) old ≡ all → all_marked d (flat_map tips (drop (i + 1) vs)) new ≡ all
vertex_marked d tips vs i e old new all within one whole =
    let rest = flat_map tips (drop (i + 1) vs) in
    ap (all_marked d rest) one ∙ sym (all_marked-append d (tips (get_or vs i e)) rest old) ∙ ap (λ us. all_marked d us old) (sym (at_drop_more (flat_map tips) vs i e within)) ∙ whole
