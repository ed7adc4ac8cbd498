use Rattle.std.proofs.Common.{rules, arith}
use Rattle.sgb_gen.proofs.ArcsInTurn.{given_as}
use Rattle.sgb_gen.proofs.SimplexEvents.{length_in_sum}
use Rattle.sgb_gen.proofs.SimplexLists.{list_by_pairs}
use Rattle.sgb_gen.proofs.accepted.simplexes.Simplex.push_all.Goals as goal

pub copy_of-tip-requires : goal.copy_of-tip-requires
copy_of-tip-requires g c = omega (arith, length_in_sum c.args.self.now c.args.x.now c.requires.member, c.sizes-bounds.ensures.few)

pub returns-clause-given : goal.returns-clause-given
returns-clause-given g c =
    given_as (g.met.K.ArcSink.laws c.args.sink.now) _ _ _ _ _ _ _ (search (rules, list_by_pairs)) c.push_both.ensures.given

pub push_both-requires-clause-bounds : goal.push_both-requires-clause-bounds
push_both-requires-clause-bounds g c = search (rules, length_in_sum)
