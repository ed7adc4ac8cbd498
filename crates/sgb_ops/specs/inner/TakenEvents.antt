-- Arcs that are handed out one by one, each with the vector where it leads, and the events of those that are taken
-- [GB_BASIC, gunion].
use Rattle.std.specs.Prelude.{◌≡◌, ◌<◌, ◌+◌, ◌-◌, ◌==◌, ℕ, Bool, true, false, not, ◌&&◌, ◌||◌, List, [], ◌∷◌, ◌++◌, length, map, filter, nat_le, nat_lt, All, Contains, if◌then◌else◌}
use Rattle.std.proofs.Common.{sym, ap, refl, subst, arith, ◌∙◌, append-nil, append_assoc, get_or, length-append}
use Rattle.std.proofs.lemmas.List.{get_or_append_left, get_or-append_right, map-append}
use Rattle.sgb_vec.proofs.Lists.{made-append}
use Rattle.sgb_graph.specs.Events.{Event}
use Rattle.sgb_graph.specs.declared.fields.Link.{Link}
use Rattle.sgb_gen.specs.LocalLists.{LocalArc}
use Rattle.sgb_gen.specs.VectorGraphs.{vertex_among}
use Rattle.sgb_ops.specs.inner.Ends.{event_of}

-- whether loops are taken once: for an undirected result, of edges
abbrev pub are_once : Bool → Bool → Bool
are_once directed of_arcs = not directed && not of_arcs

-- the arc leads to one of the vectors
abbrev pub LeadsAmong : List (List ℕ) → LocalArc → Type 0
LeadsAmong vectors arc = Contains vectors arc.tip

-- an arc to the vertex of its vector, as far as its tip and its length go
abbrev pub link_among : List (List ℕ) → LocalArc → Link
link_among vectors a = record { number = 0; tip = vertex_among vectors a.tip; len = a.len }

-- of arcs of v those without each second loop, where loops are taken once; whether the first loop is such a one
abbrev pub without_seconds : Bool → ℕ → Bool → List Link → List Link
without_seconds once v second [] = []
without_seconds once v second (l ∷ links) = if once && (l.tip == v)
    then (if second then without_seconds once v false links else l ∷ without_seconds once v true links)
    else l ∷ without_seconds once v second links

-- whether the next loop after these arcs is such a one
abbrev pub second_after : Bool → ℕ → Bool → List Link → Bool
second_after once v second [] = second
second_after once v second (l ∷ links) = second_after once v (if once && (l.tip == v) then not second else second) links

-- the tip is below n and, for an undirected result, no vertex before v
abbrev pub is_wanted : Bool → ℕ → ℕ → Link → Bool
is_wanted directed v n l = (directed || nat_le v l.tip) && nat_lt l.tip n

-- the events of those of the arcs of v
abbrev pub events_kept : Bool → Bool → ℕ → ℕ → Bool → List Link → List Event
events_kept directed once v n second links = map (event_of v) (filter (is_wanted directed v n) (without_seconds once v second links))

-- where all of the arcs lead to the vectors, the events of those that are kept stand behind the others
abbrev pub TakesArcs : List (List ℕ) → Bool → Bool → ℕ → ℕ → Bool → List Event → List LocalArc → Bool → List Event → Type 0
TakesArcs vectors directed once v n second old arcs after new = All (LeadsAmong vectors) arcs →
    (new ≡ old ++ events_kept directed once v n second (map (link_among vectors) arcs))
    × (after ≡ second_after once v second (map (link_among vectors) arcs))

-- what holds of all of some and of others holds of the first ones
all_first : (vectors : List (List ℕ)) (xs ys : List LocalArc) → All (LeadsAmong vectors) (xs ++ ys) → All (LeadsAmong vectors) xs
all_first vectors xs ys all k d within =
    subst (LeadsAmong vectors) (get_or_append_left xs ys d k within) (all k d (omega (arith, within, length-append xs ys)))

-- and of the others
all_after : (vectors : List (List ℕ)) (xs ys : List LocalArc) → All (LeadsAmong vectors) (xs ++ ys) → All (LeadsAmong vectors) ys
all_after vectors xs ys all k d within =
    let place : length xs + k - length xs ≡ k = omega arith in
    let there = all (length xs + k) d (omega (arith, within, length-append xs ys)) in
    subst (LeadsAmong vectors) (get_or-append_right xs ys (length xs) (length xs + k) d refl (omega arith) ∙ ap (λ i. get_or ys i d) place) there

module _ (once : Bool) (v : ℕ) where
  -- one arc, where the others are as they should be
  one_and : (l : Link) (xs ys : List Link) (loop own : Bool)
      → ((second : Bool) → without_seconds once v second (xs ++ ys) ≡ without_seconds once v second xs ++ without_seconds once v (second_after once v second xs) ys)
      → (if loop then (if own then without_seconds once v false (xs ++ ys) else l ∷ without_seconds once v true (xs ++ ys)) else l ∷ without_seconds once v own (xs ++ ys))
      ≡ (if loop then (if own then without_seconds once v false xs else l ∷ without_seconds once v true xs) else l ∷ without_seconds once v own xs)
      ++ without_seconds once v (second_after once v (if loop then not own else own) xs) ys
  one_and l xs ys true true next = next false
  one_and l xs ys true false next = ap (λ ls. l ∷ ls) (next true)
  one_and l xs ys false own next = ap (λ ls. l ∷ ls) (next own)

  -- some arcs, and then others
  pub seconds_append : (second : Bool) (xs ys : List Link)
      → without_seconds once v second (xs ++ ys) ≡ without_seconds once v second xs ++ without_seconds once v (second_after once v second xs) ys
  seconds_append second [] ys = refl
  seconds_append second (l ∷ xs) ys = one_and l xs ys (once && (l.tip == v)) second (λ own. seconds_append own xs ys)

  pub after_append : (second : Bool) (xs ys : List Link) → second_after once v second (xs ++ ys) ≡ second_after once v (second_after once v second xs) ys
  after_append second [] ys = refl
  after_append second (l ∷ xs) ys = after_append (if once && (l.tip == v) then not second else second) xs ys

-- no arc leaves all as it is
pub no_arc_taken : (vectors : List (List ℕ)) (directed once : Bool) (v n : ℕ) (second : Bool) (events : List Event)
    → TakesArcs vectors directed once v n second events [] second events
no_arc_taken vectors directed once v n second events all = (sym (append-nil events), refl)

-- some arcs, and then others, are both
pub more_arcs_taken : (vectors : List (List ℕ)) (directed once : Bool) (v n : ℕ) (xs ys : List LocalArc) (second between after : Bool) (old mid new : List Event)
    → TakesArcs vectors directed once v n second old xs between mid → TakesArcs vectors directed once v n between mid ys after new
    → TakesArcs vectors directed once v n second old (xs ++ ys) after new
more_arcs_taken vectors directed once v n xs ys second between after old mid new p q all =
    let first = p (all_first vectors xs ys all) in
    let last = q (all_after vectors xs ys all) in
    let arcs = map (link_among vectors) xs in
    let others = map (link_among vectors) ys in
    let both = map-append (link_among vectors) xs ys in
    let parts : events_kept directed once v n second (arcs ++ others) ≡ events_kept directed once v n second arcs ++ events_kept directed once v n between others =
    ap (λ ls. map (event_of v) (filter (is_wanted directed v n) ls)) (seconds_append once v second arcs others)
    ∙ (made-append (is_wanted directed v n) (event_of v) (without_seconds once v second arcs) (without_seconds once v (second_after once v second arcs) others)
    ∙ ap (λ b. events_kept directed once v n second arcs ++ events_kept directed once v n b others) (sym first.1)) in (
      last.0 ∙ (ap (λ es. es ++ events_kept directed once v n between others) first.0 ∙ (append_assoc old (events_kept directed once v n second arcs) (events_kept directed once v n between others)
          ∙ ap (λ es. old ++ es) (sym (ap (events_kept directed once v n second) both ∙ parts)))),
      last.1 ∙ (ap (λ b. second_after once v b others) first.1 ∙ sym (ap (second_after once v second) both ∙ after_append once v second arcs others)),
    )
