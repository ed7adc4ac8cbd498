use Rattle.std.proofs.Common.{◌+◌, pos, w64, sym, ap, ◌∙◌, arith, rules}
use Rattle.std.proofs.lemmas.Int.{to_z-of_z}
use Rattle.std.proofs.lemmas.Option.{slice_get_within}
use Rattle.sgb_graph.proofs.AddedEvents.{up_to-none, up_to-more, up_to-all}
use Rattle.sgb_gen.proofs.BoardEvents.{event_as, events_from, events_left, events_left-all, events_left-out, events_left-next}
use Rattle.sgb_gen.proofs.Vertices.{below_in_box}
use Rattle.sgb_gen.proofs.accepted.boards.Board.add_moves.Goals as goal

pub loop-shorter-init : goal.loop-shorter-init
loop-shorter-init c = grind (arith, events_from, events_left-all, up_to-none)

pub vertex_at-requires-clause-below : goal.vertex_at-requires-clause-below
vertex_at-requires-clause-below c = below_in_box c.args.self.now.sizes c.args.x.now c.args.u c.requires.vertex

pub returns-in_default-clause-ok : goal.returns-in_default-clause-ok
returns-in_default-clause-ok c = search (rules, up_to-all, events_from, events_left-out)

pub add_event-requires-clause-from : goal.add_event-requires-clause-from
add_event-requires-clause-from c = search (rules, slice_get_within)

pub loop-shorter-preserved : goal.loop-shorter-preserved
loop-shorter-preserved c =
    let b = c.args.self.now in
    let t = c.args.t.now in
    let x = c.args.x.now in
    let next = events_left-next b t x (c.loop-shorter.shorter + 1) c.args.u c.in-Some.v (omega (arith, c.longest_move-shorter-end.ensures)) c.requires.vertex (sym c.vertex_at.ensures.vertex ∙ c.in-Some.is) in
    let far = to_z-of_z w64 c.from.result (search rules) ∙ c.from.ensures in
    let added = event_as _ b.directed c.loop-shorter.graph c.add_event.new.self c.args.u c.in-Some.v _ (pos (c.loop-shorter.shorter + 1)) (ap (λ d. d.directed) c.self.view_is) far c.in_ok-add_event.ensures.ok in
    up_to-more b.directed c.args.graph.now c.loop-shorter.graph c.add_event.new.self _ (events_left b t x (c.loop-shorter.shorter + 1 + 1)) (events_from b t x) _ c.loop-shorter.invariant next added
