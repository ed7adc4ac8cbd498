use Rattle.std.proofs.Common.{ltb, w32}
use Rattle.std.proofs.lemmas.Simd.{tops_compared}
use Rattle.sgb_gen.proofs.CommonSizes.{lesser_are_minima}
use Rattle.sgb_gen.proofs.accepted.subsets.lesser.Goals as goal

pub returns : goal.returns
returns c =
    cc (tops_compared w32 ltb c.args.u c.args.v, lesser_are_minima c.args.u c.args.v)
