use Rattle.std.proofs.Common.{rules}
use Rattle.sgb_graph.proofs.AddedEvents.{up_to-more}
use Rattle.sgb_gen.proofs.SimplexEvents.{events_by, events_by-append, events_to, pairs_after, pairs_after-next}
use Rattle.sgb_gen.proofs.accepted.simplexes.Simplex.add_moves_to.Goals as goal

pub loop-lower-preserved : goal.loop-lower-preserved
loop-lower-preserved c = search (rules, events_by, pairs_after-next, events_by-append, pairs_after, up_to-more, events_to)
