use Rattle.std.proofs.Common.{sym, ap, subst, ◌∙◌, arith, rules}
use Rattle.std.specs.List.{All, Contains}
use Rattle.std.proofs.lemmas.Option.{slice_get_within}
use Rattle.sgb_graph.specs.Growth.{AddsEvents}
use Rattle.sgb_graph.proofs.AddedEvents.{up_to-more, up_to-all}
use Rattle.sgb_gen.specs.Subsets.{subsets_vectors}
use Rattle.sgb_gen.specs.inner.LocalSubsets.{events_onto}
use Rattle.sgb_gen.proofs.FamilyWalks.{at_front, next_left, none_left}
use Rattle.sgb_gen.proofs.SubsetsEvents.{down-among, events_at, events_at-arcs, events_from_place-next, events_from_place-none, events_of-subsets}
use Rattle.sgb_gen.proofs.accepted.subsets.Subsets.add_arcs.Goals as goal

pub add_moves_to-requires-clause-tips : goal.add_moves_to-requires-clause-tips
add_moves_to-requires-clause-tips c =
    let s = c.args.self.now in
    let here = at_front (subsets_vectors s) c.loop-v.left c.loop-v.v c.in-Some.x.now c.loop-v.invariant.0 c.in-Some.ensures.first in
    subst (All (λ a. Contains (subsets_vectors s) a.tip)) (sym c.in_ok-put_earlier.ensures.ok) (down-among s c.loop-v.v c.in-Some.x.now here)

pub loop-v-preserved : goal.loop-v-preserved
loop-v-preserved c =
    let s = c.args.self.now in
    let vectors = subsets_vectors s in
    let v = c.loop-v.v in
    let x = c.in-Some.x.now in
    let here = at_front vectors c.loop-v.left v x c.loop-v.invariant.0 c.in-Some.ensures.first in
    let same = ap (events_onto vectors v) c.in_ok-put_earlier.ensures.ok ∙ events_at-arcs s x v here in
    let added = subst (AddsEvents s.directed c.loop-v.graph c.add_moves_to.new.graph) same c.in_ok-add_moves_to.ensures.ok in (
      next_left vectors c.loop-v.left _ v c.loop-v.invariant.0 c.advance-some.ensures.rest,
      up_to-more _ _ _ _ (events_at s v) _ _ _ c.loop-v.invariant.1 (events_from_place-next s v (slice_get_within vectors v x here)) added,
    )

pub returns-in_default-clause-ok : goal.returns-in_default-clause-ok
returns-in_default-clause-ok c = search (rules, none_left, events_of-subsets, up_to-all, events_from_place-none)

pub returns-clause-ok : goal.returns-clause-ok
returns-clause-ok c = search (rules, events_of-subsets, up_to-all, events_from_place-none)
