use Rattle.std.proofs.Common.{◌≡◌, ◌<◌, ◌≤◌, ◌+◌, ◌++◌, ◌∙◌, ℕ, Bool, List, All, min, sym, ap, subst, map, rules, arith, flat_map}
use Rattle.sgb_graph.specs.Graphs.{GraphData}
use Rattle.sgb_graph.specs.Events.{Event}
use Rattle.sgb_ops.specs.Intersection.{intersection_events}
use Rattle.sgb_ops.specs.inner.Ends.{AllWithin}
use Rattle.sgb_graph.specs.Vertices.{order_of}
use Rattle.sgb_taken.specs.Taken.{taken}
use Rattle.sgb_ops.specs.inner.Sources.{bare}
use Rattle.sgb_ops.proofs.BareArcs.{same_commons}
use Rattle.sgb_ops.proofs.CommonEvents.{commons_of, events_after, intersection_within}
use Rattle.sgb_taken.proofs.TakenTips.{TipBelow}
use Rattle.sgb_ops.proofs.EventsWithin.{tips_below_more}
use Rattle.sgb_ops.proofs.PlainLists.{part_more, parts_all, places-next, places-none}
use Rattle.sgb_ops.proofs.intersections.common_arcs.Goals as goal

-- past the vertices of one of them all events are found
all_found : (g h : GraphData) (multi directed : Bool) (v : ℕ) (found : List Event) → min (order_of g) (order_of h) ≤ v
    → found ++ events_after g h multi directed v ≡ intersection_events g h multi directed → found ≡ intersection_events g h multi directed
all_found g h multi directed v found past is = parts_all found _ _ (ap (flat_map (commons_of g h multi directed)) (places-none (min (order_of g) (order_of h)) v past)) is

pub loop-v-preserved : goal.loop-v-preserved
loop-v-preserved c =
    let g = c.args.first.now in
    let h = c.args.second.now in
    let v = c.loop-v.v in
    let same = same_commons c.args.multi v c.deref.result.now (taken c.args.directed g v) c.deref-in-loop-v.result.now (taken c.args.directed h v)
    (ap (map bare) c.deref.ensures.value ∙ c.in_ok-take_arcs.ensures.ok) (ap (map bare) c.deref-in-loop-v.ensures.value ∙ c.in_ok-take_arcs-2.ensures.ok) in
    let below : v < min (order_of g) (order_of h) = search (rules, order_of) in (
      part_more c.loop-v.events.items _ (commons_of g h c.args.multi c.args.directed v) (events_after g h c.args.multi c.args.directed (v + 1)) _ _
          (ap (flat_map (commons_of g h c.args.multi c.args.directed)) (places-next (min (order_of g) (order_of h)) v below)) c.loop-v.invariant.0
          (c.in_ok-push_common.ensures.ok ∙ ap (λ es. c.loop-v.events.items ++ es) same),
      c.in_ok-push_common.ensures.tables ∙ c.loop-v.invariant.1,
      c.in_ok-push_common.ensures.none,
    )

pub push_common-requires-clause-ours : goal.push_common-requires-clause-ours
push_common-requires-clause-ours c =
    tips_below_more (order_of c.args.first.now) c.loop-v.tables.vertices c.deref.result.now (omega (arith, c.loop-v.invariant.1)) (subst (All (TipBelow (order_of c.args.first.now))) (sym c.deref.ensures.value) c.in_ok-take_arcs.ensures.tips)

pub push_common-requires-clause-theirs : goal.push_common-requires-clause-theirs
push_common-requires-clause-theirs c =
    tips_below_more (order_of c.args.second.now) c.loop-v.tables.vertices c.deref-in-loop-v.result.now (omega (arith, c.loop-v.invariant.1)) (subst (All (TipBelow (order_of c.args.second.now))) (sym c.deref-in-loop-v.ensures.value) c.in_ok-take_arcs-2.ensures.tips)

pub push_common-requires-clause-none : goal.push_common-requires-clause-none
push_common-requires-clause-none c = c.loop-v.invariant.2

pub returns-clause-within : goal.returns-clause-within
returns-clause-within c =
    let g = c.args.first.now in
    subst (AllWithin (order_of g)) (sym (all_found g c.args.second.now c.args.multi c.args.directed c.loop-v.v c.loop-v.events.items (search (rules, order_of)) c.loop-v.invariant.0)) (intersection_within g c.args.second.now c.args.multi c.args.directed c.n.ensures.tips)

pub returns-clause-ok : goal.returns-clause-ok
returns-clause-ok c = all_found c.args.first.now c.args.second.now c.args.multi c.args.directed c.loop-v.v c.loop-v.events.items (search (rules, order_of)) c.loop-v.invariant.0
