use Rattle.std.proofs.Common.{◌+◌, arith}
use Rattle.sgb_graph.specs.Draws.{seed_of}
use Rattle.sgb.proofs.DrawnNumbers.{plain_first, uniform_first}
use Rattle.sgb.proofs.writing.flips.next_number.Goals as goal

pub returns-then-m-eq0 : goal.returns-then-m-eq0
returns-then-m-eq0 c start k at =
    let drawn = c.draw.ensures.stands start k at in
    (k + 1, drawn.1, λ count. plain_first (seed_of start) c.args.m k c.draw.result count c.if-m-eq0.true drawn.0)

pub returns-else-m-eq0 : goal.returns-else-m-eq0
returns-else-m-eq0 c start k at =
    let drawn = c.below.ensures.stands start k at in
    (drawn.0 + 1, drawn.2, λ count. uniform_first (seed_of start) c.args.m k c.below.result drawn.0 count (omega (arith, c.if-m-eq0.false)) c.requires drawn.1)
