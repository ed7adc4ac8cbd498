use Rattle.sgb_vec.proofs.Common.{rules, arith, length-set, take_rest}
use Rattle.sgb_vec.proofs.SumPlaces.{put-more, put-all}
use Rattle.sgb_vec.proofs.sums.places.put_at.Goals as goal

pub loop-k-preserved : goal.loop-k-preserved
loop-k-preserved c =
    let before = rw take_rest at c.in-Some.ensures.before in
    let next = rw take_rest at c.in-Some.ensures.next in (
      put-more c.args.total c.args.bounds.now c.args.place c.loop-k.entries c.loop-k.k c.loop-k.left c.loop-k.rest c.in-Some.entry c.in-Some.before (omega (arith, c.loop-k-test.true)) (omega (arith, c.loop-k-test.true, c.loop-k.invariant.1)) c.in-Some.ensures.bounded.0 c.in-Some.ensures.bounded.1 before.0 before.1 next c.loop-k.invariant.0,
      simp length-set c.loop-k.invariant.1,
    )

pub returns : goal.returns
returns c = search (rules, put-all)
