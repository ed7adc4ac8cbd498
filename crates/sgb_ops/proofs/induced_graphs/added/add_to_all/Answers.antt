use Rattle.std.proofs.Common.{ℤ, w64, to_z, of_z, ◌+◌, ◌-◌, ◌∷◌, [], map, ap, arith}
use Rattle.std.specs.List.{range_with_len}
use Rattle.sgb_graph.proofs.AddedEvents.{up_to-more}
use Rattle.sgb_ops.specs.inner.Induced.{event_between}
use Rattle.sgb_ops.proofs.PlainLists.{places_from, places-next}
use Rattle.sgb_ops.proofs.induced_graphs.added.add_to_all.Goals as goal

pub loop-t-preserved : goal.loop-t-preserved
loop-t-preserved c =
    let event = event_between c.args.u (to_z w64 (of_z w64 c.args.len)) in
    let t = c.loop-t.t in
    let end = c.args.end in
    up_to-more c.args.directed c.args.built.now c.loop-t.built c.add_event.new.self (event t ∷ []) (map event (places_from end (t + 1))) (map event (range_with_len c.args.start (end - c.args.start)))
    (map event (places_from end t)) c.loop-t.invariant (ap (map event) (places-next end t c.loop-t-test.true)) c.in_ok-add_event.ensures.ok
