-- Arcs that lead to vectors, put into rows by the places of these.
use Rattle.std.specs.Prelude.{◌≡◌, ◌<◌, ◌≤◌, ◌+◌, ◌-◌, ℕ, List, [], ◌++◌, map, length, All, Contains}
use Rattle.std.proofs.Common.{sym, ap, refl, subst, ◌∙◌, append-nil, append_assoc, arith, get_or, length-append}
use Rattle.std.proofs.lemmas.List.{get_or_append_left, get_or-append_right, map-append}
use Rattle.sgb_gen.specs.LocalLists.{LocalArc}
use Rattle.sgb_gen.specs.VectorGraphs.{vertex_among}
use Rattle.sgb_arrays.specs.declared.rows.Rows.{Rows}

-- the arc leads to one of the vectors
abbrev pub LeadsAmong : List (List ℕ) → LocalArc → Type 0
LeadsAmong vectors arc = Contains vectors arc.tip

-- where all of them lead to the vectors, the arcs stand behind those that the rows had
abbrev pub PutsArcs : List (List ℕ) → Rows → List LocalArc → Rows → Type 0
PutsArcs vectors old arcs new = All (LeadsAmong vectors) arcs →
    (new.tips.items ≡ old.tips.items ++ map (λ a. vertex_among vectors a.tip) arcs)
    × (new.lengths.items ≡ old.lengths.items ++ map (λ a. a.len) arcs)
    × (new.starts.items ≡ old.starts.items)

-- what holds of all of some and of others holds of the first ones
all_first : (vectors : List (List ℕ)) (xs ys : List LocalArc) → All (LeadsAmong vectors) (xs ++ ys) → All (LeadsAmong vectors) xs
all_first vectors xs ys all k d within =
    subst (LeadsAmong vectors) (get_or_append_left xs ys d k within) (all k d (omega (arith, within, length-append xs ys)))

-- and of the others
all_after : (vectors : List (List ℕ)) (xs ys : List LocalArc) → All (LeadsAmong vectors) (xs ++ ys) → All (LeadsAmong vectors) ys
all_after vectors xs ys all k d within =
    let place : length xs + k - length xs ≡ k = omega arith in
    let there = all (length xs + k) d (omega (arith, within, length-append xs ys)) in
    subst (LeadsAmong vectors) (get_or-append_right xs ys (length xs) (length xs + k) d refl (omega arith) ∙ ap (λ i. get_or ys i d) place) there

-- values behind others, and more behind these
put_after : {X : Type 0} (f : LocalArc → X) (xs ys : List LocalArc) (old mid new : List X) → mid ≡ old ++ map f xs → new ≡ mid ++ map f ys → new ≡ old ++ map f (xs ++ ys)
put_after f xs ys old mid new first second =
    second ∙ ap (λ vs. vs ++ map f ys) first ∙ append_assoc old (map f xs) (map f ys) ∙ ap (λ vs. old ++ vs) (sym (map-append f xs ys))

-- no arc leaves the rows as they are
pub no_arc_put : (vectors : List (List ℕ)) (rows : Rows) → PutsArcs vectors rows [] rows
no_arc_put vectors rows all = (sym (append-nil rows.tips.items), sym (append-nil rows.lengths.items), refl)

-- some arcs, and then others, are both
pub more_arcs_put : (vectors : List (List ℕ)) (xs ys : List LocalArc) (old mid new : Rows) → PutsArcs vectors old xs mid → PutsArcs vectors mid ys new
    → PutsArcs vectors old (xs ++ ys) new
more_arcs_put vectors xs ys old mid new p q all =
    let first = p (all_first vectors xs ys all) in
    let last = q (all_after vectors xs ys all) in (
      put_after (λ (a : LocalArc). vertex_among vectors a.tip) xs ys old.tips.items mid.tips.items new.tips.items first.0 last.0,
      put_after (λ (a : LocalArc). a.len) xs ys old.lengths.items mid.lengths.items new.lengths.items first.1 last.1,
      last.2 ∙ first.2,
    )
