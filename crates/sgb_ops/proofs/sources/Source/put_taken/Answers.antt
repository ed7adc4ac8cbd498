use Rattle.std.proofs.lemmas.Result.{on_ok_weaker}
use Rattle.sgb_ops.proofs.BareArcs.{events_put}
use Rattle.sgb_ops.proofs.sources.Source.put_taken.Goals as goal

pub returns-clause-ok : goal.returns-clause-ok
returns-clause-ok c =
    on_ok_weaker c.push_taken.result
    (events_put c.args.directed c.args.self.now c.args.v c.n.result c.clear.new.self.items c.push_taken.new.events.items c.n.ensures.tips c.requires.vertex c.n.ensures.count c.clear.ensures.items)
    c.push_taken.ensures.ok
