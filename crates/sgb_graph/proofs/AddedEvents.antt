-- Events that are added to a graph one after another.
use Rattle.sgb_vec.proofs.Common.{arith, rules, ◌≡◌, ℕ, Bool, true, false, List, [], ◌∷◌, ◌++◌, length, map, min, max, refl, sym, ap, subst, ◌∙◌, append_assoc, append-nil, All, All-nil, All-cons, All-append}
use Rattle.sgb_graph.specs.Descriptions.{IsGraphOf}
use Rattle.sgb_graph.specs.Graphs.{GraphData, HasNoFields, arc_record}
use Rattle.sgb_graph.specs.Events.{Event, HasArcsOf, HasEndsBelow}
use Rattle.sgb_graph.specs.Growth.{AddsEvents, KeepsAllButArcs, first_arc, new_graph, new_vertex, with_event, with_id}
use Rattle.sgb_graph.specs.inner.Growth.{after_lower}
use Rattle.sgb_graph.specs.Made.{no_fields, plain}
use Rattle.sgb_graph.proofs.EventLemmas.{event_keeps, event_more, new_has_none}

-- nothing is added
pub KeepsAll-same : (g : GraphData) → KeepsAllButArcs g g
KeepsAll-same g = record { id = refl; kinds = refl; util = refl; size = refl; names = refl; fields = refl }

pub adds-none : (directed : Bool) (g : GraphData) → AddsEvents directed g g []
adds-none directed g = search (rules, append-nil, KeepsAll-same)

-- first some and then others
pub KeepsAll-then : (a b c : GraphData) → KeepsAllButArcs a b → KeepsAllButArcs b c → KeepsAllButArcs a c
KeepsAll-then a b c h k = grind (arith)

pub adds-then : (directed : Bool) (a b c : GraphData) (es fs : List Event) → AddsEvents directed a b es → AddsEvents directed b c fs → AddsEvents directed a c (es ++ fs)
adds-then directed a b c es fs h k = grind (arith, append_assoc, KeepsAll-then)

-- the records of one event use no fields
event_fields : (directed : Bool) (g : GraphData) (e : Event) → All HasNoFields g.records → All HasNoFields (with_event directed g e).records
event_fields true g e old = All-append HasNoFields g.records _ old (All-cons HasNoFields _ [] (refl, refl) (All-nil HasNoFields))
event_fields false g e old = search (rules, max, min, All-append, All-cons, All-nil, arc_record, after_lower, first_arc, HasNoFields)

-- one event
pub adds-event : (directed : Bool) (g : GraphData) (e : Event) → HasEndsBelow (length g.vertices) e → AddsEvents directed g (with_event directed g e) (e ∷ [])
adds-event directed g e below = grind (arith, event_more, event_fields, event_keeps)

-- a graph that has some of the events already, where the others are still to come
pub record AddsUpTo (directed : Bool) (old now : GraphData) (coming all : List Event) : Type 0 where
  pub done : List Event
  pub added : AddsEvents directed old now done
  pub whole : done ++ coming ≡ all

-- at first all are still to come
pub up_to-none : (directed : Bool) (g : GraphData) (all : List Event) → AddsUpTo directed g g all all
up_to-none directed g all = record { done = []; added = adds-none directed g; whole = refl }

-- the next of them are added
pub up_to-more : (directed : Bool) (old now new : GraphData) (es coming all next : List Event) → AddsUpTo directed old now next all → next ≡ es ++ coming → AddsEvents directed now new es → AddsUpTo directed old new coming all
up_to-more directed old now new es coming all next h e k = record {
  done = h.done ++ es;
  added = adds-then directed old now new h.done es h.added k;
  whole = append_assoc h.done es coming ∙ ap (λ fs. h.done ++ fs) (sym e) ∙ h.whole;
}

-- at last none are to come
pub up_to-all : (directed : Bool) (old now : GraphData) (coming all : List Event) → AddsUpTo directed old now coming all → coming ≡ [] → AddsEvents directed old now all
up_to-all directed old now coming all h e =
    subst (AddsEvents directed old now) (sym (append-nil h.done) ∙ ap (λ fs. h.done ++ fs) (sym e) ∙ h.whole) h.added

-- added to a new graph, they are its arcs
pub adds-new : (directed : Bool) (texts : List (List ℕ)) (events : List Event) (g : GraphData) → AddsEvents directed (new_graph texts) g events → HasArcsOf directed events g
adds-new directed texts events g h = h.arcs [] (new_has_none directed texts)

-- the records of that graph use no fields
pub adds-new_fields : (directed : Bool) (texts : List (List ℕ)) (events : List Event) (g : GraphData) → AddsEvents directed (new_graph texts) g events → All HasNoFields g.records
adds-new_fields directed texts events g h = h.arc_fields (All-nil HasNoFields)

-- the names and the fields of new vertices
pub new_names : (texts : List (List ℕ)) → map (λ v. v.name) (map new_vertex texts) ≡ texts
new_names [] = refl
new_names (t ∷ texts) = ap (λ ts. t ∷ ts) (new_names texts)

pub new_fields : (texts : List (List ℕ)) → map (λ v. v.util) (map new_vertex texts) ≡ map (λ t. no_fields) texts
new_fields [] = refl
new_fields (t ∷ texts) = ap (λ fs. no_fields ∷ fs) (new_fields texts)

-- and with its id it is the graph of the events that uses no utility fields
pub adds-graph : (directed : Bool) (texts : List (List ℕ)) (events : List Event) (g : GraphData) (text : List ℕ) → AddsEvents directed (new_graph texts) g events → IsGraphOf (plain directed events texts text) (with_id text g)
adds-graph directed texts events g text h = record {
  id = refl;
  kinds = h.rest.kinds;
  util = h.rest.util;
  names = h.rest.names ∙ new_names texts;
  fields = h.rest.fields ∙ new_fields texts;
  arcs = let a = adds-new directed texts events g h in record { count = a.count; tips = a.tips; lengths = a.lengths; lists = a.lists; within = a.within; ends = a.ends };
  arc_fields = adds-new_fields directed texts events g h;
}
