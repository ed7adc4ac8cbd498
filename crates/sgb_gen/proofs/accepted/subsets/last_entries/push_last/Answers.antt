use Rattle.std.proofs.Common.{reverse, ap, arith}
use Rattle.sgb_vec.specs.Sums.{bounded_sums}
use Rattle.sgb_gen.specs.inner.Descents.{arcs_under}
use Rattle.sgb_gen.proofs.ArcsInTurn.{given_as}
use Rattle.sgb_gen.proofs.LastEntries.{zeros_kept}
use Rattle.sgb_gen.proofs.accepted.subsets.last_entries.push_last.Goals as goal

pub returns-clause-given : goal.returns-clause-given
returns-clause-given g c =
    let b = c.args.begun in
    let x = c.args.x.now in
    given_as (g.met.K.ArcSink.laws c.args.sink.now) _ _ _ _ _ _ _
    (ap (λ f. arcs_under b.size_bits f b.common x (reverse (bounded_sums b.left c.args.bounds.now))) (zeros_kept c.args.tip.now c.put_zeros.new.tip x c.requires.place (omega arith) c.put_zeros.ensures))
    c.push_units.ensures.given
