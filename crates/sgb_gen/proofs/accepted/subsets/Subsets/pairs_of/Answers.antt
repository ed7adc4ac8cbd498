use Rattle.std.proofs.Common.{◌≡◌, ap, ◌∙◌, arith}
use Rattle.std.proofs.lemmas.Option.{IfSome_then}
use Rattle.sgb_gen.specs.inner.SubsetsPairs.{pairs_of_sums}
use Rattle.sgb_gen.proofs.SubsetsMovePairs.{pairs-bounded}
use Rattle.sgb_gen.proofs.accepted.subsets.Subsets.pairs_of.Goals as goal

pub pairs_found-requires-clause-few : goal.pairs_found-requires-clause-few
pairs_found-requires-clause-few c =
    let s = c.args.self.now in
    let total = c.args.sides.total in
    let same : pairs_of_sums c.args.size_bits c.sizes.result.now total total 0 ≡ pairs_of_sums s.size_bits s.sum.bounds s.sum.total s.sum.total 0 =
    ap (λ bounds. pairs_of_sums c.args.size_bits bounds total total 0) c.sizes.ensures.same ∙ c.requires.same in
    omega (arith, same, pairs-bounded s c.requires.few)

pub returns-clause-count : goal.returns-clause-count
returns-clause-count c =
    let total = c.args.sides.total in
    IfSome_then c.pairs_found.result c.pairs_found.ensures (λ n is. is ∙ ap (λ bounds. pairs_of_sums c.args.size_bits bounds total total 0) c.sizes.ensures.same ∙ c.requires.same)

pub returns-clause-bounded : goal.returns-clause-bounded
returns-clause-bounded c =
    let s = c.args.self.now in
    let total = c.args.sides.total in
    let same : pairs_of_sums c.args.size_bits c.sizes.result.now total total 0 ≡ pairs_of_sums s.size_bits s.sum.bounds s.sum.total s.sum.total 0 =
    ap (λ bounds. pairs_of_sums c.args.size_bits bounds total total 0) c.sizes.ensures.same ∙ c.requires.same in
    IfSome_then c.pairs_found.result c.pairs_found.ensures (λ n is. omega (arith, is, same, pairs-bounded s c.requires.few))
