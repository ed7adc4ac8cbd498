use Rattle.std.proofs.Common.{rules, ◌≡◌, ℕ, ◌-◌, ◌*◌, [], ◌∷◌, get_or, ap, arith}
use Rattle.sgb_vec.specs.inner.SumRows.{count_of_sum}
use Rattle.sgb_vec.proofs.SumRowLemmas.{products_step, products_end, products_all}
use Rattle.sgb_vec.proofs.sums.counts.count_at.Goals as goal

pub returns-then-count-from-clause-none : goal.returns-then-count-from-clause-none
returns-then-count-from-clause-none c = λ bounds counts.
    let row = c.args.row.now in
    let n = c.loop-place.place in
    let t = c.args.total in
    let pairs : ℕ → ℕ = λ k. count_of_sum k (c.args.a ∷ c.args.b ∷ []) in
    let product : get_or row n 0 * c.pairs.result ≡ get_or row n 0 * pairs (t - n) = ap (λ x. get_or row n 0 * x) c.pairs.ensures.count in
    omega (arith, product, products_step (λ i. get_or row i 0) pairs t n (omega arith), c.loop-place.invariant.1, products_all t c.args.a c.args.b row bounds counts, c.if-count-from.true)

pub loop-place-preserved : goal.loop-place-preserved
loop-place-preserved c = search (rules, count_of_sum, products_step)

pub returns-clause-some : goal.returns-clause-some
returns-clause-some c = λ bounds counts.
    let row = c.args.row.now in
    let t = c.args.total in
    let pairs : ℕ → ℕ = λ k. count_of_sum k (c.args.a ∷ c.args.b ∷ []) in
    (omega (arith, c.loop-place.invariant.1, products_end row pairs t c.loop-place.place (omega arith), products_all t c.args.a c.args.b row bounds counts), c.loop-place.invariant.0)
