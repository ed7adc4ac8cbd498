use Rattle.std.proofs.Common.{rules}
use Rattle.std.proofs.lemmas.List.{drop_all}
use Rattle.sgb_graph.proofs.AddedEvents.{up_to-more, up_to-all}
use Rattle.sgb_gen.proofs.FamilyWalks.{at_front, drop_at_vector, next_left, none_left}
use Rattle.sgb_gen.proofs.SimplexEvents.{events_to, events_of, events_of-moves}
use Rattle.sgb_gen.proofs.accepted.simplexes.Simplex.add_arcs.Goals as goal

pub loop-v-preserved : goal.loop-v-preserved
loop-v-preserved c = search (rules, up_to-more, events_to, events_of, at_front, drop_at_vector, next_left)

pub returns-in_default-clause-ok : goal.returns-in_default-clause-ok
returns-in_default-clause-ok c = search (rules, none_left, events_to, drop_all, events_of-moves, up_to-all, events_of)

pub returns-clause-ok : goal.returns-clause-ok
returns-clause-ok c = search (rules, events_to, drop_all, events_of-moves, up_to-all, events_of)
