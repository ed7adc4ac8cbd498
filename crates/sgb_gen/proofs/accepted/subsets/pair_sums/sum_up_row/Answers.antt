use Rattle.std.proofs.Common.{◌≡◌, ◌+◌, ap, sym, subst, ◌∙◌, arith}
use Rattle.sgb_gen.specs.inner.SubsetsPairs.{IsTurned, pairs_of_sums, pairs_up_to, place_of_pairs}
use Rattle.sgb_gen.proofs.SubsetsPairTables.{place-next_row}
use Rattle.sgb_gen.proofs.accepted.subsets.pair_sums.sum_up_row.Goals as goal

pub loop-second-preserved : goal.loop-second-preserved
loop-second-preserved c = (c.sum_up_cells.ensures.length, λ size_bits bounds so. c.sum_up_cells.ensures.summed size_bits bounds (c.loop-second.invariant.1 size_bits bounds so))

pub returns-clause-summed : goal.returns-clause-summed
returns-clause-summed c size_bits bounds so =
    let a = c.args in
    let end : c.loop-second.second ≡ a.sides.total + 1 = omega arith in
    subst (λ p. IsTurned a.sides.total a.sides.most p (pairs_up_to size_bits bounds) (pairs_of_sums size_bits bounds) c.loop-second.table)
    (ap (λ s. place_of_pairs a.sides.total a.sides.most a.first s 0) end ∙ sym (place-next_row a.sides.total a.sides.most a.first)) (c.loop-second.invariant.1 size_bits bounds so)
