-- A search by levels finds the distances.
use Rattle.std.proofs.Common.{◌≡◌, take, drop, map, ℕ, zero, suc, ◌+◌, ◌≤◌, ◌<◌, ◌==◌, true, false, List, [], ◌∷◌, ◌++◌, Option, Some, None, length, get_or, replicate, refl, sym, ap, subst, ◌∙◌, inl, inr, arith}
use Rattle.std.proofs.Math.Logic.{⊎_elim}
use Rattle.std.specs.List.{All, Contains, filter, flat_map, slice_get}
use Rattle.std.specs.Option.{option_map_or}
use Rattle.std.proofs.Math.Dec.{ltb}
use Rattle.std.proofs.lemmas.Bool.{cases_lt, lt-ltb, ltb-true}
use Rattle.std.proofs.lemmas.Bool.Decides.{Decides-eqb, nat_tests}
use Rattle.std.proofs.lemmas.List.{get_or-replicate, get_or_past, length-replicate, nil_from_length, take-append-le, take_all}
use Rattle.std.proofs.lemmas.List.Elements.{All-contains, All-contains_itself, All-filter, All-map, Contains-get_or, filter_passes}
use Rattle.std.proofs.lemmas.Option.{slice_get_past}
use Rattle.sgb_vec.proofs.Lists.{All-flat_map, Contains-first, Contains-flat_map, Contains-none, Contains-passing}
use Rattle.sgb_graph.specs.Graphs.{GraphData, chain_of, link_of, numbers_of}
use Rattle.sgb_graph.specs.Growth.{IsKept, first_arc}
use Rattle.sgb_graph.specs.declared.fields.Link.{Link}
use Rattle.sgb_graph.specs.declared.fields.Vertex.{Vertex}
use Rattle.sgb_graph.proofs.AddingArcs.{chain_of_vertex}
use Rattle.sgb_graph.proofs.Growing.{lists_end, parts_of}
use Rattle.sgb_graph.proofs.Tips.{tips_below}
use Rattle.sgb_levels.specs.Distances.{AreDistances, HasArc, IsDistanceIfAny, IsPath, IsWalk, end_of}
use Rattle.sgb_levels.specs.inner.Marks.{all_marked, marked, marks}
use Rattle.sgb_levels.specs.inner.Searches.{IsFoundAt, IsSearched, tips_from, unmarked}
use Rattle.sgb_levels.proofs.Marking.{Marking, marking-all}

-- a path, and an arc from its end
path_on : (g : GraphData) (u v w k : ℕ) (vs : List ℕ) → IsWalk g u vs → length vs + 1 ≡ k → end_of u vs ≡ v → HasArc g v w → IsPath g u w k
path_on g u v w k [] walk size ends arc = (w ∷ [], (rw ends arc, tt), size, refl)
path_on g u v w k (x ∷ vs) walk size ends arc =
    let (ws, on, more, end) = path_on g x v w (length vs + 1) vs walk.1 refl ends arc in
    (x ∷ ws, (walk.0, on), omega arith, end)

-- a vertex where an arc leads from one of these
arc_from : (g : GraphData) (us : List ℕ) (v : ℕ) → Contains (flat_map (tips_from g) us) v → (u : ℕ) × Contains us u × HasArc g u v
arc_from g us v h =
    All-contains (λ x. (u : ℕ) × Contains us u × HasArc g u x) (flat_map (tips_from g) us) v (All-flat_map (λ x. (u : ℕ) × Contains us u × HasArc g u x) (tips_from g) us (λ i d below j e inside.
    (get_or us i d, Contains-get_or us i d below, Contains-get_or (tips_from g (get_or us i d)) j e inside))) h

-- these are vertices to which arcs lead from a level, and all of them
record AreTips (g : GraphData) (level tips : List ℕ) : Type 0 where
  from : (v : ℕ) → Contains tips v → (u : ℕ) × Contains level u × HasArc g u v
  all : (u v : ℕ) → Contains level u → v < length g.vertices → HasArc g u v → Contains tips v

-- one more level
searched-more : (g : GraphData) (k : ℕ) (found new : List (Option ℕ)) (level next tips : List ℕ) → AreTips g level tips → IsSearched g k found level
    → Marking (k + 1) tips (marks found []) (marks new next) → IsSearched g (k + 1) new next
searched-more g k found new level next tips are old marking = record {
  size = marking.size ∙ old.size;
  start = λ some. marking.kept 0 0 (old.start some);
  paths = paths;
  here = λ v h. ⊎_elim (λ none. absurd (Contains-none v none)) (λ is. is) (marking.news v h);
  left = λ v d h. elim (marking.fresh v d h) [
    | inl before ↦ elim (old.left v d before) [
      | inl has ↦ inr (λ w below arc.
          let (e, is) = marking.reached w (are.all v w has below arc) in
          let same : d ≡ k = cc (old.here v has) in
          (e, omega (arith, (paths w e is).0, same), is))
      | inr all ↦ inr (λ w below arc. let (e, low, is) = all w below arc in (e, low, marking.kept w e is))
    ]
    | inr (_, _, has) ↦ inl has
  ];
}
  where
    paths : (v d : ℕ) → IsFoundAt new v d → (d ≤ k + 1) × IsPath g 0 v d
    paths v d h = elim (marking.fresh v d h) [
      | inl before ↦ let (low, is) = old.paths v d before in (omega arith, is)
      | inr (same, tip, _) ↦
          let (u, has, arc) = are.from v tip in
          let (vs, walk, size, ends) = (old.paths u k (old.here u has)).1 in
          (omega arith, path_on g 0 u v d vs walk (omega arith) ends arc)
    ]

-- arcs lead to vertices
tips_within : (g : GraphData) → IsKept g → (v : ℕ) → v < length g.vertices → All (λ t. t < length g.vertices) (tips_from g v)
tips_within g kept v below =
    let n = length g.vertices in
    let some : 0 < n = omega (arith, below) in
    let parts = parts_of g kept.graph in
    let within = tips_below (length g.records) n (length g.records) g.kinds g.records (first_arc g.vertices v) some parts.records in
    All-map (λ t. t < n) (λ l. l.tip) (chain_of g v) (subst (All (λ (l : Link). l.tip < n)) (sym (chain_of_vertex g v (lists_end g parts) below).chain) within)

-- those of a level are vertices
pub level_within : (g : GraphData) (k : ℕ) (found : List (Option ℕ)) (level : List ℕ) → IsSearched g k found level → All (λ v. v < length g.vertices) level
level_within g k found level searched i d below =
    let v = get_or level i d in
    grind (arith, get_or_past, searched.here v (Contains-get_or level i d below), searched.size)

-- the next level, where what was lent is given back as a whole, and how many are not found
pub searched_next : (g : GraphData) (k n lent : ℕ) (found new : List (Option ℕ)) (level next : List ℕ) → IsKept g → IsSearched g k found level
    → length level ≡ n → (n == 0) ≡ false → length new ≡ lent → marks new next ≡ all_marked (k + 1) (flat_map (tips_from g) level) (marks found [])
    → IsSearched g (k + 1) (take lent (new ++ drop (length new) found)) next × (unmarked (take lent (new ++ drop (length new) found)) + length next < unmarked found + length level)
searched_next g k n lent found new level next kept searched size some lent_is is =
    let tips = flat_map (tips_from g) level in
    let within = All-flat_map (λ t. t < length g.vertices) (tips_from g) level (λ i d below. tips_within g kept (get_or level i d) (level_within g k found level searched i d below)) in
    let marking : Marking (k + 1) tips (marks found []) (marks new next) = rw is (marking-all (k + 1) (length g.vertices) tips (marks found []) searched.size within) in
    let back : take lent (new ++ drop (length new) found) ≡ new = grind (arith, take-append-le, take_all) in
    let are : AreTips g level tips = record { from = arc_from g level; all = λ u v has _ arc. Contains-flat_map (tips_from g) level u v has arc } in
    rw back (searched-more g k found new level next tips are searched marking, grind (arith, nat_tests, marking.count))

-- a list without marks
unmarked-replicate : (n : ℕ) → unmarked (replicate n None) ≡ n
unmarked-replicate zero = refl
unmarked-replicate (suc n) = ap suc (unmarked-replicate n)

none_found : (n v e : ℕ) → get_or {A = Option ℕ} (replicate n None) v None ≡ Some e → ⊥
none_found n v e h = grind (arith, get_or-replicate, get_or_past, length-replicate)

-- a search begins with these vertices found
searched_begun : (g : GraphData) (found new : List (Option ℕ)) (vs level : List ℕ) → found ≡ replicate (length g.vertices) None → (0 < length g.vertices → Contains vs 0)
    → ((v : ℕ) → Contains vs v → (v ≡ 0) × (0 < length g.vertices)) → marks new level ≡ all_marked 0 vs (marks found []) → IsSearched g 0 new level × (unmarked new + length level ≡ length g.vertices)
searched_begun g found new vs level none first only is = (
  record {
    size = marking.size ∙ size;
    start = λ some. let (e, h) = marking.reached 0 (first some) in search (fresh 0 e h, h);
    paths = λ v d h. let (same, is, _) = fresh v d h in (omega arith, rw (same, is) ([], tt, refl, refl));
    here = λ v h. ⊎_elim (λ none. absurd (Contains-none v none)) (λ is. is) (marking.news v h);
    left = λ v d h. inl (fresh v d h).2;
  },
  omega (arith, marking.count, ap unmarked none, unmarked-replicate (length g.vertices)),
)
  where
    size : length found ≡ length g.vertices
    size = ap length none ∙ length-replicate (length g.vertices) None

    marking : Marking 0 vs (marks found []) (marks new level)
    marking = rw is (marking-all 0 (length g.vertices) vs (marks found []) size (λ i d below. let (first_is, some) = only (get_or vs i d) (Contains-get_or vs i d below) in omega arith))

    fresh : (v d : ℕ) → IsFoundAt new v d → (d ≡ 0) × (v ≡ 0) × Contains level v
    fresh v d h = elim (marking.fresh v d h) [
      | inl before ↦ absurd (none_found (length g.vertices) v d (rw (← none) before))
      | inr (is, has, waits) ↦ (is, (only v has).0, waits)
    ]

-- with the first vertex, where there is one
pub searched-first : (g : GraphData) (found new : List (Option ℕ)) (level : List ℕ) → 0 < length g.vertices → found ≡ replicate (length g.vertices) None
    → marks new level ≡ marked 0 0 (marks found []) → IsSearched g 0 new level × (unmarked new + length level ≡ length g.vertices)
searched-first g found new level some none is =
    searched_begun g found new (0 ∷ []) level none (λ _. Contains-first 0 []) (λ v h. (grind arith, some)) is

pub searched-none : (g : GraphData) (found : List (Option ℕ)) → length g.vertices ≡ 0 → found ≡ replicate (length g.vertices) None
    → IsSearched g 0 found [] × (unmarked found + length {A = ℕ} [] ≡ length g.vertices)
searched-none g found empty none = searched_begun g found found [] [] none (λ some. absurd (omega arith)) (λ v h. absurd (Contains-none v h)) refl

-- no arc leads from what is no vertex
no_arc : (g : GraphData) (u v : ℕ) → length g.vertices ≤ u → HasArc g u v → ⊥
no_arc g u v past arc =
    let none : tips_from g u ≡ [] = ap (λ (x : Option Vertex). map (λ l. l.tip) (option_map_or (λ y. flat_map (link_of g.records) (numbers_of g.records y.arcs)) x [])) (slice_get_past g.vertices u past) in
    Contains-none v (subst (λ ts. Contains ts v) none arc)

-- so a walk to a vertex begins at one
begins_within : (g : GraphData) (u v : ℕ) (vs : List ℕ) → IsWalk g u vs → end_of u vs ≡ v → v < length g.vertices → u < length g.vertices
begins_within g u v [] walk ends below = omega arith
begins_within g u v (w ∷ vs) (arc, walk) ends below = elim (cases_lt u (length g.vertices)) [
  | inl lt ↦ lt
  | inr ge ↦ absurd (no_arc g u w ge arc)
]

-- where a level is empty, each walk to a vertex leads from one that was found to one that was, with as many arcs at least
walk_found : (g : GraphData) (k : ℕ) (found : List (Option ℕ)) → IsSearched g k found [] → (vs : List ℕ) (u v d j : ℕ) → v < length g.vertices → IsWalk g u vs → end_of u vs ≡ v → d + length vs ≤ j
    → IsFoundAt found u d → (e : ℕ) × (e ≤ j) × IsFoundAt found v e
walk_found g k found searched [] u v d j below walk ends size h = (d, omega arith, rw (← ends) h)
walk_found g k found searched (w ∷ vs) u v d j below (arc, walk) ends size h = elim (searched.left u d h) [
  | inl has ↦ absurd (Contains-none u has)
  | inr on ↦ let (e, low, is) = on w (begins_within g w v vs walk ends below) arc in walk_found g k found searched vs w v e j below walk ends (omega arith) is
]

-- the distances are found
pub searched-all : (g : GraphData) (k n : ℕ) (found : List (Option ℕ)) (level : List ℕ) → length level ≡ n → (n == 0) ≡ true → IsSearched g k found level → AreDistances g 0 found
searched-all g k n found level size empty level_searched = record {
  size = level_searched.size;
  each = λ v below. each v below (get_or found v None) refl;
}
  where
    on_path : (v j : ℕ) → v < length g.vertices → IsPath g 0 v j → (e : ℕ) × (e ≤ j) × IsFoundAt found v e
    on_path v j below (vs, walk, steps, ends) =
        let searched = subst (IsSearched g k found) (nil_from_length level (size ∙ (Decides-eqb n 0).0 empty)) level_searched in
        walk_found g k found searched vs 0 v 0 j below walk ends (omega arith) (searched.start (omega (arith, below)))

    each : (v : ℕ) → v < length g.vertices → (o : Option ℕ) → get_or found v None ≡ o → IsDistanceIfAny g 0 v o
    each v below (Some d) is = record { path = (level_searched.paths v d is).1; least = λ j path. grind (arith, on_path v j below path) }
    each v below None is = λ j path. grind (arith, on_path v j below path)

-- ---- there are distances in each graph

-- of these vertices those that the graph has
abbrev within_graph : GraphData → List ℕ → List ℕ
within_graph g vs = filter (λ v. ltb v (length g.vertices)) vs

-- the vertices to which arcs lead from a level
level_tips : GraphData → List ℕ → List ℕ
level_tips g level = within_graph g (flat_map (tips_from g) level)

tips_are : (g : GraphData) (level : List ℕ) → AreTips g level (level_tips g level)
unfolding level_tips
tips_are g level = record {
  from = λ v tip.
      let tips = flat_map (tips_from g) level in
      arc_from g level v (All-contains (Contains tips) (within_graph g tips) v (All-filter (λ w. ltb w (length g.vertices)) (Contains tips) tips (All-contains_itself tips)) tip);
  all = λ u v has below arc.
      Contains-passing (λ w. ltb w (length g.vertices)) (flat_map (tips_from g) level) v (lt-ltb v (length g.vertices) below) (Contains-flat_map (tips_from g) level u v has arc);
}

tips_below_size : (g : GraphData) (level : List ℕ) → All (λ v. v < length g.vertices) (level_tips g level)
unfolding level_tips
tips_below_size g level i d below =
    ltb-true (get_or (level_tips g level) i d) (length g.vertices) (filter_passes (λ v. ltb v (length g.vertices)) (flat_map (tips_from g) level) i d below)

-- a search goes on until a level is empty
searched_on : (fuel : ℕ) (g : GraphData) (k : ℕ) (found : List (Option ℕ)) (level : List ℕ) → unmarked found + length level ≤ fuel → IsSearched g k found level
    → (distances : List (Option ℕ)) × AreDistances g 0 distances
searched_on fuel g k found [] enough searched = (found, searched-all g k 0 found [] refl refl searched)
searched_on zero g k found (v ∷ level) enough searched = absurd (omega (arith, enough))
searched_on (suc fuel) g k found (v ∷ level) enough searched =
    let tips = level_tips g (v ∷ level) in
    let more = all_marked (k + 1) tips (marks found []) in
    let marking = marking-all (k + 1) (length g.vertices) tips (marks found []) searched.size (tips_below_size g (v ∷ level)) in
    searched_on fuel g (k + 1) more.found more.next (omega (arith, enough, marking.count))
    (searched-more g k found more.found (v ∷ level) more.next tips (tips_are g (v ∷ level)) searched marking)

-- it begins with the first vertex, if there is one
pub distances_found : (g : GraphData) → (distances : List (Option ℕ)) × AreDistances g 0 distances
distances_found g = elim (cases_lt 0 (length g.vertices)) [
  | inl some ↦
      let none = replicate {A = Option ℕ} (length g.vertices) None in
      let more = marked 0 0 (marks none []) in
      let begun = searched-first g none more.found more.next some refl refl in
      searched_on (length g.vertices) g 0 more.found more.next (omega (arith, begun.1)) begun.0
  | inr past ↦
      let none = replicate {A = Option ℕ} (length g.vertices) None in
      let begun = searched-none g none (omega (arith, past)) refl in
      searched_on (length g.vertices) g 0 none [] (omega (arith, begun.1)) begun.0
]
