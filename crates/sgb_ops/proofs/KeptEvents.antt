-- The events of arcs that are handed out one by one: of a list of a graph of events they are those of the arcs taken of it.
use Rattle.sgb_vec.proofs.Common.{rules, ◌≡◌, ◌∙◌, ◌+◌, ◌≤◌, ◌<◌, ◌==◌, ℕ, ℤ, pos, min, max, Bool, true, false, not, ◌&&◌, ◌||◌, List, [], ◌∷◌, ◌++◌, map, filter, length, refl, sym, ap, ap₂, subst, Result, Ok, Err, Some, arith, All, Contains, OnOk, IsOkUnless, nat_le, nat_lt, if◌then◌else◌, slice_get, slice_get_within, get_or_from_slice_get, eq-eqb, ne_eqb, lt-ltb, le-ltb, le-leb, leb-false, filter-append, All-map, All-tail, All-weaker, append-nil, get_or, nat_tests, cond_both}
use Rattle.sgb_vec.specs.declared.panics.Panic.{Panic}
use Rattle.sgb_vec.specs.declared.panics.Panic.TheVariants.{NoRoom}
use Rattle.sgb_graph.specs.Events.{Event, links_at, list_from, list_of, records_of}
use Rattle.sgb_graph.specs.Graphs.{GraphData, chain_of}
use Rattle.sgb_graph.specs.Growth.{link}
use Rattle.sgb_graph.specs.Made.{graph_described}
use Rattle.sgb_graph.specs.declared.fields.Link.{Link}
use Rattle.std.specs.Prelude.{IfNone, IfSome, None, Option}
use Rattle.std.specs.Bool.{OnTrue}
use Rattle.std.proofs.Common.{true≢false}
use Rattle.std.proofs.lemmas.Bool.{OnTrue_at}
use Rattle.std.proofs.lemmas.Option.{slice_get-get_or}
use Rattle.sgb_vec.specs.Boxes.{box}
use Rattle.sgb_gen.specs.ArcSinks.{AreGiven}
use Rattle.sgb_gen.specs.Spans.{FallBy, SpanData, arc_along, arcs_of_span}
use Rattle.sgb_gen.specs.LocalLists.{LocalArc, list_in}
use Rattle.sgb_gen.specs.VectorGraphs.{VectorGraph, described_by, event_among, vertex_among}
use Rattle.sgb_gen.proofs.ArcsInTurn.{TakesInTurn}
use Rattle.sgb_gen.proofs.ListedGraphs.{IsOfFamily}
use Rattle.sgb_gen.proofs.LocalChains.{chain_said}
use Rattle.sgb_gen.proofs.MoveLists.{tips_of_list}
use Rattle.sgb_gen.proofs.VectorVertices.{lists_of_graph}
use Rattle.sgb_taken.specs.Taken.{each_edge_once, taken}
use Rattle.sgb_ops.specs.inner.Ends.{event_of}
use Rattle.sgb_ops.specs.inner.Sources.{bare, event_to}
use Rattle.sgb_taken.specs.inner.TakenArcs.{taken_of}
use Rattle.sgb_ops.specs.inner.TakenEvents.{TakesArcs, more_arcs_taken, no_arc_taken, after_append, are_once, events_kept, is_wanted, link_among, second_after, seconds_append, without_seconds}
use Rattle.sgb_ops.proofs.ListedEvents.{taken_is}
use Rattle.sgb_taken.proofs.Taking.{numbers_at, numbers_from_first, one_edge, taken_apart}

-- ---- the arcs taken of a list, by its second loops

-- the arc leads to no vertex before v
abbrev leads_up : ℕ → Link → Bool
leads_up v l = nat_le v l.tip

-- of some arcs of v each edge is taken once where of edges each second loop is left out, and the others that lead up are taken
record IsTakenSo (once : Bool) (v : ℕ) (links : List Link) : Type 0 where
  pub taken : each_edge_once v links ≡ filter (leads_up v) (without_seconds once v false links)
  pub ended : second_after once v false links ≡ false

-- the records of one arc
of_arc : (v k : ℕ) (e : Event) → IsTakenSo false v (links_at v k (records_of true e))
unfolding each_edge_once
of_arc v k e = record { taken = grind (arith, nat_tests, cond_both); ended = grind (arith) }

-- those of one edge
edge_kept : (v k a b : ℕ) (far : ℤ) → a ≤ b
    → filter (leads_up v) (without_seconds true v false (links_at v k (record { start = a; tip = b; len = far } ∷ record { start = b; tip = a; len = far } ∷ [])))
    ≡ (if a == v then link k b far ∷ [] else [])
edge_kept v k a b far up = grind (arith, nat_tests)

edge_ended : (v k a b : ℕ) (far : ℤ) → second_after true v false (links_at v k (record { start = a; tip = b; len = far } ∷ record { start = b; tip = a; len = far } ∷ [])) ≡ false
edge_ended v k a b far = grind (arith, nat_tests)

of_event : (directed : Bool) (v k : ℕ) (e : Event) → IsTakenSo (not directed) v (links_at v k (records_of directed e))
of_event true v k e = of_arc v k e
of_event false v k e = record {
  taken = one_edge v k (min e.from e.to) (max e.from e.to) e.len (omega arith) ∙ sym (edge_kept v k (min e.from e.to) (max e.from e.to) e.len (omega arith));
  ended = edge_ended v k (min e.from e.to) (max e.from e.to) e.len;
}

-- the list of events whose first record has this number
of_events : (directed : Bool) (v k : ℕ) (events : List Event) → IsTakenSo (not directed) v (list_from directed k events v)
unfolding list_from each_edge_once
of_events directed v k [] = record { taken = refl; ended = refl }
of_events directed v k (e ∷ events) =
    let once = not directed in
    let low = k + length (records_of directed e) in
    let later = list_from directed low events v in
    let own = links_at v k (records_of directed e) in
    let next = of_events directed v low events in
    let one = of_event directed v k e in
    record {
      taken =
          taken_apart v low later own (numbers_from_first directed low events v)
          (All-weaker (λ l. (k ≤ l.number) × (l.number < low)) (λ l. l.number < low) (λ l p. p.1) _ (numbers_at v k (records_of directed e)))
          ∙ (ap₂ (λ xs ys. xs ++ ys) next.taken one.taken
          ∙ (sym (filter-append (leads_up v) (without_seconds once v false later) (without_seconds once v false own))
          ∙ ap (filter (leads_up v)) (ap (λ b. without_seconds once v false later ++ without_seconds once v b own) (sym next.ended) ∙ sym (seconds_append once v false later own))));
      ended = after_append once v false later own ∙ (ap (λ b. second_after once v b own) next.ended ∙ one.ended);
    }

-- ---- the events of the arcs taken

-- two tests
both_tests : (v n : ℕ) (links : List Link) → filter (is_wanted false v n) links ≡ filter (λ l. nat_lt l.tip n) (filter (leads_up v) links)
both_tests v n [] = refl
both_tests v n (l ∷ links) = by_test (leads_up v l) (both_tests v n links)
  where
    by_test : (up : Bool) → filter (is_wanted false v n) links ≡ filter (λ k. nat_lt k.tip n) (filter (leads_up v) links)
        → (if up && nat_lt l.tip n then l ∷ filter (is_wanted false v n) links else filter (is_wanted false v n) links)
        ≡ filter (λ k. nat_lt k.tip n) (if up then l ∷ filter (leads_up v) links else filter (leads_up v) links)
    by_test true same = ap (λ ls. if nat_lt l.tip n then l ∷ ls else ls) same
    by_test false same = same

-- where loops are not taken once nothing is left out
all_kept : (v : ℕ) (second : Bool) (links : List Link) → without_seconds false v second links ≡ links
all_kept v second [] = refl
all_kept v second (l ∷ links) = ap (λ ls. l ∷ ls) (all_kept v second links)

taken_kept : (directed of_arcs : Bool) (v n : ℕ) (events : List Event)
    → map (event_of v) (filter (λ l. nat_lt l.tip n) (taken_of directed v (list_of of_arcs events v))) ≡ events_kept directed (are_once directed of_arcs) v n false (list_of of_arcs events v)
taken_kept true of_arcs v n events = ap (λ ls. map (event_of v) (filter (λ l. nat_lt l.tip n) ls)) (sym (all_kept v false (list_of of_arcs events v)))
taken_kept false of_arcs v n events =
    ap (λ ls. map (event_of v) (filter (λ l. nat_lt l.tip n) ls)) (of_events of_arcs v 0 events).taken
    ∙ ap (map (event_of v)) (sym (both_tests v n (without_seconds (not of_arcs) v false (list_of of_arcs events v))))

-- ---- one arc

-- its event, where it is not left out
one_kept : (directed once : Bool) (v n : ℕ) (second : Bool) (l : Link)
    → events_kept directed once v n second (l ∷ []) ≡ (if (once && (l.tip == v)) && second then [] else event_to directed v n l.tip l.len)
one_kept directed once v n second l = by_loop (once && (l.tip == v)) second
  where
    by_test : (up below : Bool) → map (event_of v) (if up && below then l ∷ [] else []) ≡ (if below && up then event_of v l ∷ [] else [])
    by_test true true = refl
    by_test true false = refl
    by_test false true = refl
    by_test false false = refl

    by_loop : (loop own : Bool) → map (event_of v) (filter (is_wanted directed v n) (if loop then (if own then [] else l ∷ []) else l ∷ []))
        ≡ (if loop && own then [] else event_to directed v n l.tip l.len)
    by_loop true true = refl
    by_loop true false = by_test (directed || nat_le v l.tip) (nat_lt l.tip n)
    by_loop false own = by_test (directed || nat_le v l.tip) (nat_lt l.tip n)

-- arcs are taken in turn
pub events_in_turn : (vectors : List (List ℕ)) (directed once : Bool) (v n : ℕ)
    → TakesInTurn {R = Bool} {S = List Event} {F = Panic} (λ own before arcs ended now. TakesArcs vectors directed once v n own before arcs ended now) (λ _ _ _ _ _ f. f ≡ NoRoom)
events_in_turn vectors directed once v n = record {
  none = λ second events. no_arc_taken vectors directed once v n second events;
  more = λ xs ys second old between mid after new p q. more_arcs_taken vectors directed once v n xs ys second between after old mid new p q;
  cut_after = λ _ _ _ _ _ _ _ _ _ _ q. q;
  cut_more = λ _ _ _ _ _ _ _ q. q;
}

-- a test that fails, and another one
both_fail : (a b : Bool) → b ≡ false → (a && b) ≡ false
both_fail true b fails = fails
both_fail false b fails = refl

-- an earlier vertex is not as great
not_up : (v t : ℕ) → t < v → nat_le v t ≡ false
not_up v t less = grind (arith, nat_tests)

-- for an undirected result nothing is kept of arcs to earlier vertices
earlier_left : (once : Bool) (v n : ℕ) (second : Bool) (links : List Link) → All (λ l. l.tip < v) links
    → (events_kept false once v n second links ≡ []) × (second_after once v second links ≡ second)
earlier_left once v n second [] all = (refl, refl)
earlier_left once v n second (l ∷ links) all =
    let rest = earlier_left once v n second links (All-tail (λ (k : Link). k.tip < v) l links all) in
    let less : l.tip < v = all 0 l (omega arith) in
    let apart : (once && (l.tip == v)) ≡ false = both_fail once (l.tip == v) (ne_eqb l.tip v (λ same. omega (arith, less, same))) in
    let down : (nat_le v l.tip && nat_lt l.tip n) ≡ false = ap (λ b. b && nat_lt l.tip n) (not_up v l.tip less) in (
      ap (λ b. map (event_of v) (filter (is_wanted false v n) (if b then (if second then without_seconds once v false links else l ∷ without_seconds once v true links) else l ∷ without_seconds once v second links))) apart
          ∙ (ap (λ b. map (event_of v) (if b then l ∷ filter (is_wanted false v n) (without_seconds once v second links) else filter (is_wanted false v n) (without_seconds once v second links))) down
          ∙ rest.0),
      ap (λ b. second_after once v (if b then not second else second) links) apart ∙ rest.1,
    )

-- so of a span whose arcs lead to earlier vertices
before_taken : (vectors : List (List ℕ)) (once : Bool) (v n : ℕ) (second : Bool) (old : List Event) (s : SpanData) (first stride : ℕ) → vectors ≡ box s.sizes → FallBy s first stride → first < v
    → TakesArcs vectors false once v n second old (arcs_of_span s) second old
before_taken vectors once v n second old s first stride same falls less all =
    let arc = arc_along s.sizes s.wrap s.x s.parts in
    let earlier = All-map (λ (l : Link). l.tip < v) (link_among vectors) (arcs_of_span s)
    (All-map (λ (a : LocalArc). vertex_among vectors a.tip < v) arc s.lengths
    (λ k d h.
    let l = get_or s.lengths k d in
    let at = falls k l (slice_get-get_or s.lengths k d h) in
    omega (arith, less, at, ap (λ vs. vertex_among vs (arc l).tip) same))) in
    let left = earlier_left once v n second (map (link_among vectors) (arcs_of_span s)) earlier in
    (sym (append-nil old) ∙ ap (λ es. old ++ es) (sym left.0), sym left.1)

pub before_given : {T X : Type 0} (first stride : X → ℕ) (tips : Option X) (vectors : List (List ℕ)) (directed once : Bool) (v n : ℕ) (second : Bool) (old : List Event) (s : SpanData) (lead : Bool) (y : T)
    → directed ≡ false → lead ≡ true → vectors ≡ box s.sizes → IfSome tips (λ t. FallBy s (first t) (stride t)) → IfSome tips (λ t. OnTrue lead (first t < v)) → IfNone tips (lead ≡ false)
    → AreGiven {R = Bool} {S = List Event} {F = Panic} (λ own before arcs ended now. TakesArcs vectors directed once v n own before arcs ended now) (λ _ _ _ _ _ f. f ≡ NoRoom) second old (arcs_of_span s) second old (Ok y)
before_given first stride (Some t) vectors directed once v n second old s lead y edges leads same falls less none =
    subst (λ b. TakesArcs vectors b once v n second old (arcs_of_span s) second old) (sym edges)
    (before_taken vectors once v n second old s (first t) (stride t) same falls (OnTrue_at leads less))
before_given first stride None vectors directed once v n second old s lead y edges leads same falls less none = absurd (grind (arith, true≢false))

-- it is taken, or found no memory: that left out too
pub arc_given : {T : Type 0} (vectors : List (List ℕ)) (directed once : Bool) (v n w len : ℕ) (second after : Bool) (tip : List ℕ) (old new : List Event) (r : Result T Panic)
    → (Contains vectors tip → w ≡ vertex_among vectors tip) → after ≡ (if once && (w == v) then not second else second)
    → OnOk r (new ≡ old ++ (if (once && (w == v)) && second then [] else event_to directed v n w (pos len))) → IsOkUnless r NoRoom
    → AreGiven {R = Bool} {S = List Event} {F = Panic} (λ own before arcs ended now. TakesArcs vectors directed once v n own before arcs ended now) (λ _ _ _ _ _ f. f ≡ NoRoom) second old (record { tip = tip; len = pos len } ∷ []) after new r
arc_given vectors directed once v n w len second after tip old new (Ok y) found flag put memory = λ all.
    let is = found (all 0 (record { tip = tip; len = pos len }) (omega arith)) in
    let l : Link = record { number = 0; tip = vertex_among vectors tip; len = pos len } in (
      put ∙ (ap (λ u. old ++ (if (once && (u == v)) && second then [] else event_to directed v n u (pos len))) is ∙ ap (λ es. old ++ es) (sym (one_kept directed once v n second l))),
      flag ∙ ap (λ u. if once && (u == v) then not second else second) is,
    )
arc_given vectors directed once v n w len second after tip old new (Err e) found flag put memory = memory

-- ---- they depend on tips and lengths alone

bare_one : (once : Bool) (v : ℕ) (l : Link) (links : List Link) (loop own : Bool)
    → ((second : Bool) → without_seconds once v second (map bare links) ≡ map bare (without_seconds once v second links))
    → (if loop then (if own then without_seconds once v false (map bare links) else bare l ∷ without_seconds once v true (map bare links)) else bare l ∷ without_seconds once v own (map bare links))
    ≡ map bare (if loop then (if own then without_seconds once v false links else l ∷ without_seconds once v true links) else l ∷ without_seconds once v own links)
bare_one once v l links true true next = next false
bare_one once v l links true false next = ap (λ ls. bare l ∷ ls) (next true)
bare_one once v l links false own next = ap (λ ls. bare l ∷ ls) (next own)

bare_kept : (once : Bool) (v : ℕ) (second : Bool) (links : List Link) → without_seconds once v second (map bare links) ≡ map bare (without_seconds once v second links)
bare_kept once v second [] = refl
bare_kept once v second (l ∷ links) = bare_one once v l links (once && (l.tip == v)) second (λ own. bare_kept once v own links)

bare_wanted : (directed : Bool) (v n : ℕ) (links : List Link) → map (event_of v) (filter (is_wanted directed v n) (map bare links)) ≡ map (event_of v) (filter (is_wanted directed v n) links)
bare_wanted directed v n [] = refl
bare_wanted directed v n (l ∷ links) = by_test (is_wanted directed v n l) (bare_wanted directed v n links)
  where
    by_test : (wanted : Bool) → map (event_of v) (filter (is_wanted directed v n) (map bare links)) ≡ map (event_of v) (filter (is_wanted directed v n) links)
        → map (event_of v) (if wanted then bare l ∷ filter (is_wanted directed v n) (map bare links) else filter (is_wanted directed v n) (map bare links))
        ≡ map (event_of v) (if wanted then l ∷ filter (is_wanted directed v n) links else filter (is_wanted directed v n) links)
    by_test true same = ap (λ es. event_of v l ∷ es) same
    by_test false same = same

-- arcs of these tips and lengths
abbrev arcs_by : List ℕ → List ℤ → List Link
arcs_by (t ∷ ts) (k ∷ ks) = record { number = 0; tip = t; len = k } ∷ arcs_by ts ks
arcs_by ts ks = []

arcs_among : (vectors : List (List ℕ)) (arcs : List LocalArc) → map (link_among vectors) arcs ≡ arcs_by (map (λ a. vertex_among vectors a.tip) arcs) (map (λ a. a.len) arcs)
arcs_among vectors [] = refl
arcs_among vectors (a ∷ arcs) = ap (λ ls. link_among vectors a ∷ ls) (arcs_among vectors arcs)

arcs_bare : (links : List Link) → arcs_by (map (λ l. l.tip) links) (map (λ l. l.len) links) ≡ map bare links
arcs_bare [] = refl
arcs_bare (l ∷ links) = ap (λ ls. bare l ∷ ls) (arcs_bare links)

-- ---- the list of a vector

-- a vector at a place is one of them
pub member_at : (vectors : List (List ℕ)) (v : ℕ) (x : List ℕ) → slice_get vectors v ≡ Some x → Contains vectors x
member_at vectors v x there = (v, slice_get_within vectors v x there, get_or_from_slice_get vectors v x x there)

-- where the events of the list of x are put, those of the arcs taken of its vertex are
events_put : (directed : Bool) (g : VectorGraph) → IsOfFamily g → (v n : ℕ) (x : List ℕ) (old new : List Event) (after : Bool) → slice_get g.vectors v ≡ Some x
    → TakesArcs g.vectors directed (are_once directed g.directed) v n false old (list_in g x) after new
    → new ≡ old ++ map (event_of v) (filter (λ l. nat_lt l.tip n) (taken directed (graph_described (described_by g)) v))
events_put directed g is v n x old new after there takes =
    let once = are_once directed g.directed in
    let events = map (event_among g.vectors) g.moves in
    let h = graph_described (described_by g) in
    let chain : chain_of h v ≡ list_of g.directed events v = lists_of_graph g is.rising is.ends v (slice_get_within g.vectors v x there) in
    let said = chain_said g is.rising is.ends v x there in
    let links : map (link_among g.vectors) (list_in g x) ≡ map bare (chain_of h v) = arcs_among g.vectors (list_in g x) ∙ (ap₂ arcs_by said.tips said.lengths ∙ arcs_bare (chain_of h v)) in
    let puts = takes (tips_of_list g.vectors g.directed x g.moves is.rising is.ends (member_at g.vectors v x there)) in
    puts.0 ∙ ap (λ es. old ++ es)
    (ap (events_kept directed once v n false) (links ∙ ap (map bare) chain)
    ∙ (ap (λ ls. map (event_of v) (filter (is_wanted directed v n) ls)) (bare_kept once v false (list_of g.directed events v))
    ∙ (bare_wanted directed v n (without_seconds once v false (list_of g.directed events v))
    ∙ (sym (taken_kept directed g.directed v n events)
    ∙ ap (λ ls. map (event_of v) (filter (λ l. nat_lt l.tip n) ls)) (ap (taken_of directed v) (sym chain) ∙ sym (taken_is directed h v))))))

module _ {T : Type 0} (directed : Bool) (g : VectorGraph) (is : IsOfFamily g) (v n : ℕ) (x : List ℕ) (old new : List Event) (after once : Bool) where
  -- what becomes of events to which its arcs were handed
  abbrev GivenTo : Result T Panic → Type 0
  GivenTo r = AreGiven {R = Bool} {S = List Event} {F = Panic} (λ second before arcs ended now. TakesArcs g.vectors directed once v n second before arcs ended now) (λ _ _ _ _ _ f. f ≡ NoRoom) false old (list_in g x) after new r

  pub events_given : (r : Result T Panic) → slice_get g.vectors v ≡ Some x → once ≡ are_once directed g.directed → GivenTo r
      → OnOk r (new ≡ old ++ map (event_of v) (filter (λ l. nat_lt l.tip n) (taken directed (graph_described (described_by g)) v)))
  events_given (Ok y) there same given =
      events_put directed g is v n x old new after there (subst (λ b. TakesArcs g.vectors directed b v n false old (list_in g x) after new) same given)
  events_given (Err e) there same given = tt

  pub fault_given : (r : Result T Panic) → GivenTo r → IsOkUnless r NoRoom
  fault_given (Ok y) given = tt
  fault_given (Err e) given = given
