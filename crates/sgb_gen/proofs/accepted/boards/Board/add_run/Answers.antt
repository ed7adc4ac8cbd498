use Rattle.std.proofs.Common.{◌<◌, ◌+◌, ◌-◌, ◌*◌, ap, map, pos, subst, sym, w64, ◌∙◌, arith, rules}
use Rattle.std.specs.List.{range_with_len}
use Rattle.std.proofs.lemmas.Int.{to_z-of_z}
use Rattle.sgb_graph.proofs.AddedEvents.{AddsUpTo, up_to-all, up_to-more, up_to-none}
use Rattle.sgb_gen.specs.inner.StridedMoves.{event_of_stride, events_of_stride}
use Rattle.sgb_gen.proofs.BoardEvents.{event_as}
use Rattle.sgb_gen.proofs.StridedMoves.{all_of_stride, first_of_stride, none_of_stride}
use Rattle.sgb_gen.proofs.accepted.boards.Board.add_run.Goals as goal

pub loop-shorter-init : goal.loop-shorter-init
loop-shorter-init c =
    let d = c.args.self.now.directed in
    let g = c.args.graph.now in
    let all = events_of_stride c.args.u c.args.places c.args.farthest in
    subst (λ es. AddsUpTo d g g es all) (sym (all_of_stride c.args.u c.args.places c.args.farthest)) (up_to-none d g all)

pub add_event-requires-clause-from : goal.add_event-requires-clause-from
add_event-requires-clause-from c = omega (arith, c.requires.vertex, c.loop-shorter.invariant.added.rest.size)

pub add_event-requires-clause-to : goal.add_event-requires-clause-to
add_event-requires-clause-to c =
    let k = c.loop-shorter.shorter in
    let less : k < c.args.farthest = search (rules, arith) in
    omega (arith, c.requires.tips (k + 1) (omega arith) (omega (arith, less)), c.loop-shorter.invariant.added.rest.size)

pub loop-shorter-preserved : goal.loop-shorter-preserved
loop-shorter-preserved c =
    let k = c.loop-shorter.shorter in
    let u = c.args.u in
    let s = c.args.places in
    let n = c.args.farthest in
    let less : k < n = search (rules, arith) in
    let far = to_z-of_z w64 c.from.result (search rules) ∙ c.from.ensures in
    let added = event_as _ c.args.self.now.directed c.loop-shorter.graph c.add_event.new.self u (u + (k + 1) * s) _ (pos (k + 1)) (ap (λ d. d.directed) c.self.view_is) far c.in_ok-add_event.ensures.ok in
    up_to-more c.args.self.now.directed c.args.graph.now c.loop-shorter.graph c.add_event.new.self _ (map (event_of_stride u s) (range_with_len (k + 1 + 1) (n - (k + 1)))) (events_of_stride u s n) _
    c.loop-shorter.invariant (first_of_stride u s k n less) added

pub returns-clause-ok : goal.returns-clause-ok
returns-clause-ok c = search (rules, up_to-all, none_of_stride)
