use Rattle.std.proofs.Common.{sym, arith}
use Rattle.sgb_gen.proofs.SubsetsLeftOver.{bits-past}
use Rattle.sgb_gen.proofs.accepted.subsets.left_over.moved_down.Goals as goal

pub returns-then-d-gt127 : goal.returns-then-d-gt127
returns-then-d-gt127 c = sym (bits-past c.args.size_bits c.args.d c.ranges.size_bits.fits (omega (arith, c.if-d-gt127.true)))
