use Rattle.std.proofs.Common.{◌%◌, ◌^◌, ap, arith, inl, inr}
use Rattle.sgb_gen.proofs.SubsetsPairs.{below-none}
use Rattle.sgb_gen.proofs.accepted.subsets.pair_sums.pairs_below.Goals.{then-first-eq0-via-then-first-eq0, then-first-eq0-via-else-first-eq0+then-second-eq0}
use Rattle.sgb_gen.proofs.accepted.subsets.pair_sums.pairs_below.Goals as goal

pub returns-then-first-eq0 : goal.returns-then-first-eq0
returns-then-first-eq0 c size_bits bounds so =
    let a = c.args in
    ap (λ n. n % 2 ^ 64) (below-none size_bits a.first a.second a.common bounds (elim c.then-first-eq0.branch [
      | then-first-eq0-via-then-first-eq0 w ↦ inl (omega (arith, w.if-first-eq0.true))
      | then-first-eq0-via-else-first-eq0+then-second-eq0 w ↦ inr (omega (arith, w.if-second-eq0.true))
    ]))
