use Rattle.std.proofs.Common.{◌≡◌, ◌+◌, ◌*◌, ap, ◌∙◌, arith}
use Rattle.sgb_vec.proofs.SumTriples.{twice-triangle}
use Rattle.sgb_vec.proofs.sums.triples.triangle.Goals as goal

pub returns-clause-twice : goal.returns-clause-twice
returns-clause-twice c =
    let same : c.from.result * (c.from-2.result + 1) ≡ c.args.n * (c.args.n + 1) = ap (λ m. m * (c.from-2.result + 1)) c.from.ensures ∙ ap (λ m. c.args.n * (m + 1)) c.from-2.ensures in
    omega (arith, same, twice-triangle c.args.n)
