use Rattle.std.proofs.Common.{◌≡◌, ◌-◌, [], ◌∷◌, pos, take, sym, ap, subst, ◌∙◌, arith}
use Rattle.std.specs.List.{Contains}
use Rattle.std.proofs.lemmas.Option.{slice_get_within}
use Rattle.sgb_graph.specs.Events.{Event}
use Rattle.sgb_graph.specs.Growth.{AddsEvents}
use Rattle.sgb_graph.proofs.AddedEvents.{up_to-more}
use Rattle.sgb_gen.specs.Subsets.{subsets_vectors}
use Rattle.sgb_gen.specs.VectorGraphs.{vertex_among}
use Rattle.sgb_gen.specs.inner.LocalSubsets.{events_onto}
use Rattle.sgb_gen.proofs.SubsetsEvents.{arc-among, onto-next, vertex_in_sum}
use Rattle.sgb_gen.proofs.accepted.subsets.Subsets.add_moves_to.Goals as goal

pub vertex_of-u-requires-clause-member : goal.vertex_of-u-requires-clause-member
vertex_of-u-requires-clause-member c =
    let vectors = subsets_vectors c.args.self.now in
    subst (Contains vectors) (sym (ap (λ a. a.tip) c.get-in-loop-k.view_is)) (arc-among vectors c.args.links.now.arcs (c.loop-k.k - 1) c.get.result c.requires.tips c.get.ensures)

pub add_event-requires-clause-from : goal.add_event-requires-clause-from
add_event-requires-clause-from c =
    omega (arith, slice_get_within (subsets_vectors c.args.self.now) c.vertex_of-u.result _ c.vertex_of-u.ensures, c.loop-k.invariant.added.rest.size, c.requires.vertices)

pub loop-k-preserved : goal.loop-k-preserved
loop-k-preserved c =
    let s = c.args.self.now in
    let vectors = subsets_vectors s in
    let arcs = c.args.links.now.arcs in
    let left = events_onto vectors c.args.v (take (c.loop-k.k - 1) arcs) in
    let there = ap (λ a. vertex_among vectors a.tip) (sym c.get-in-loop-k.view_is) ∙ vertex_in_sum s _ c.vertex_of-u.result c.vertex_of-u.ensures in
    let event : Event = record { from = c.vertex_of-u.result; to = c.args.v; len = pos 1 } in
    let added = subst (λ d. AddsEvents d c.loop-k.graph c.add_event.new.self (event ∷ [])) (ap (λ d. d.directed) c.self.view_is) c.in_ok-add_event.ensures.ok in
    up_to-more _ _ _ _ (event ∷ []) left _ _ c.loop-k.invariant
    (onto-next vectors c.args.v c.loop-k.k arcs c.get.result (omega arith) c.get.ensures ∙ ap (λ u. record { from = u; to = c.args.v; len = pos 1 } ∷ left) there) added
