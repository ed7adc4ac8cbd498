use Rattle.std.proofs.Common.{rules, ◌≡◌, ◌+◌, ◌-◌, arith, length-set}
use Rattle.sgb_vec.proofs.BoxDigits.{size-pos, digits-more, digits-all}
use Rattle.sgb_vec.proofs.boxes.put_at.Goals as goal

pub nonzero_rem-entries : goal.nonzero_rem-entries
nonzero_rem-entries c = search (rules, size-pos)

pub nonzero_div-rest : goal.nonzero_div-rest
nonzero_div-rest c = search (rules, size-pos)

pub loop-k-preserved : goal.loop-k-preserved
loop-k-preserved c =
    let sizes = c.args.sizes.now in
    let after : c.loop-k.k ≡ (c.loop-k.k - 1) + 1 = omega (arith, c.loop-k-test.true) in (
      digits-more sizes c.loop-k.entries (c.loop-k.k - 1) c.loop-k.k c.loop-k.rest c.args.place after (omega (arith, c.requires.within)) (omega (arith, c.loop-k-test.true, c.loop-k.auto.k)) c.loop-k.invariant.1 c.loop-k.invariant.0,
      simp length-set c.loop-k.invariant.1,
    )

pub returns : goal.returns
returns c = search (rules, digits-all)
