use Rattle.std.proofs.Common.{rules}
use Rattle.sgb_gen.proofs.ArcsInTurn.{given_as, took_none}
use Rattle.sgb_gen.proofs.DescentArcs.{under-zeros}
use Rattle.sgb_gen.proofs.LastEntries.{zeros_filled}
use Rattle.sgb_gen.proofs.accepted.subsets.last_entries.push_zeros.Goals as goal

pub returns-then-not-is_wanted-clause-given : goal.returns-then-not-is_wanted-clause-given
returns-then-not-is_wanted-clause-given g c = took_none (g.met.K.ArcSink.laws c.args.sink.now) _ _ _ (search (rules, under-zeros))

pub returns-clause-given : goal.returns-clause-given
returns-clause-given g c =
    given_as (g.met.K.ArcSink.laws c.args.sink.now) _ _ _ _ _ _ _ (search (rules, zeros_filled, under-zeros)) c.put_arc.ensures.given
