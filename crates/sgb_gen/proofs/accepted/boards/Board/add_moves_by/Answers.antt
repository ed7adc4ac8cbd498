use Rattle.std.proofs.Common.{rules}
use Rattle.std.proofs.lemmas.List.{drop_all}
use Rattle.sgb_vec.proofs.RangeSteps.{first_and_rest}
use Rattle.sgb_graph.proofs.AddedEvents.{up_to-more, up_to-all}
use Rattle.sgb_gen.proofs.BoardEvents.{events_from, events_by-moves}
use Rattle.sgb_gen.proofs.FamilyWalks.{next_left}
use Rattle.sgb_gen.proofs.accepted.boards.Board.add_moves_by.Goals as goal

pub loop-u-preserved : goal.loop-u-preserved
loop-u-preserved c = search (rules, first_and_rest, next_left, up_to-more, events_from)

pub returns-in_default-clause-ok : goal.returns-in_default-clause-ok
returns-in_default-clause-ok c = search (rules, events_from, events_by-moves, up_to-all)

pub returns-clause-ok : goal.returns-clause-ok
returns-clause-ok c = search (rules, events_from, drop_all, events_by-moves, up_to-all)
