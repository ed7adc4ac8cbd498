use Rattle.std.proofs.Common.{rules, ℕ, [], ◌∷◌, arith}
use Rattle.sgb_vec.specs.inner.SumRows.{count_of_sum}
use Rattle.sgb_vec.proofs.SumRowLemmas.{products_step, products_end}
use Rattle.sgb_vec.proofs.SumTriples.{triple_products_all}
use Rattle.sgb_vec.proofs.sums.rows.count_with_row.Goals as goal

pub loop-place-preserved : goal.loop-place-preserved
loop-place-preserved c = search (rules, count_of_sum, products_step)

pub returns : goal.returns
returns c = λ bounds counts.
    let row = c.args.row.now in
    let t = c.args.total in
    let triples : ℕ → ℕ = λ k. count_of_sum k (c.args.a ∷ c.args.b ∷ c.args.c ∷ []) in
    omega (arith, c.loop-place.invariant.1, products_end row triples t c.loop-place.place (omega arith), triple_products_all t c.args.a c.args.b c.args.c row bounds counts)
