use Rattle.std.proofs.Common.{◌≡◌, ◌≤◌, ◌+◌, ◌*◌, nat_abs, pos, get_or, ap, subst₂, arith, rules}
use Rattle.sgb_gen.proofs.MostLengths.{side_some, within_side}
use Rattle.sgb_gen.proofs.accepted.boards.Board.most_along.Goals as goal

pub returns-then-size-eq0 : goal.returns-then-size-eq0
returns-then-size-eq0 c x below =
    absurd (omega (arith, side_some c.args.self.now x c.args.k below (omega (arith, c.requires.entry, c.requires.dimensions)), ap (λ s. get_or s c.args.k 0) c.sizes.ensures, c.if-size-eq0.true))

pub returns : goal.returns
returns c x below =
    let b = c.args.self.now in
    let n = c.lengths_along.result in
    let step : c.unsigned_abs.result ≡ nat_abs (get_or c.args.t.now c.args.k (pos 0)) = search rules in
    within_side b x c.args.t.now c.args.k n below c.requires.entry c.requires.dimensions c.requires.stop
    (subst₂ (λ s u. s ≤ (n + 1) * u) (ap (λ s. get_or s c.args.k 0) c.sizes.ensures) step c.lengths_along.ensures.off)
