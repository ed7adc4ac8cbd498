use Rattle.sgb_ops.proofs.KeptEvents.{arc_given}
use Rattle.sgb_ops.proofs.taken_events.TakenEventsArcSinkBoolVecEvent.put_arc.Goals as goal

pub returns-clause-given : goal.returns-clause-given
returns-clause-given g c =
    let s = c.args.self.now in
    arc_given (g.P.VectorPlaces.vectors s.places.now) s.directed s.loops_once s.vertex s.n c.place_if_there.result c.args.len c.args.after_loop.now c.push.new.after_loop
    c.args.tip.now c.args.events.now.items c.push.new.events.items c.push.result
    c.place_if_there.ensures c.push.ensures.after c.push.ensures.events c.push.ensures.memory
