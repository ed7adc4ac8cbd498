use Rattle.std.proofs.Common.{◌≡◌, sum, arith}
use Rattle.sgb_gen.proofs.SubsetsLeftOver.{pairs-left}
use Rattle.sgb_gen.proofs.accepted.subsets.left_over.lesser_of.Goals as goal

pub returns-clause-same : goal.returns-clause-same
returns-clause-same c =
    let all : c.sum_of_bounds-all.result ≡ sum c.args.bounds.now =
    omega (arith, c.sum_of_bounds-all.ensures, c.from-n.ensures, c.ranges.total.fits, c.if-n-all.false) in
    rw (c.moved_down.ensures, c.from-n.ensures, all)
    (pairs-left c.args.size_bits c.args.bounds.now c.args.total c.ranges.size_bits.fits (omega (arith, all, c.from-n.ensures, c.if-all-n.false)) (omega (arith, all, c.from-n.ensures, c.if-n-all.false)))
