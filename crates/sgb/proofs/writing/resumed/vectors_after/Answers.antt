use Rattle.sgb_gen.proofs.VectorVertices.{rest_from}
use Rattle.sgb.proofs.writing.resumed.vectors_after.Goals as goal

pub returns-in-Some : goal.returns-in-Some
returns-in-Some g c =
    rw c.in-Some.is (rest_from (g.F.Family.members c.args.family.now) (g.met.F.Family.rising c.args.family.now) c.in-Some.x.now c.after.result c.unwrap.result c.unwrap.ensures c.after.ensures.after)
