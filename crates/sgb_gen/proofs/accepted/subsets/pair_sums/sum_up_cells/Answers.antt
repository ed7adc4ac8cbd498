use Rattle.std.proofs.Common.{◌≡◌, ◌+◌, ap, sym, subst, ◌∙◌, arith}
use Rattle.sgb_gen.specs.inner.SubsetsPairs.{IsTurned, pairs_of_sums, pairs_up_to, place_of_pairs}
use Rattle.sgb_gen.proofs.SubsetsPairTables.{place-next}
use Rattle.sgb_gen.proofs.accepted.subsets.pair_sums.sum_up_cells.Goals as goal

pub loop-common-preserved : goal.loop-common-preserved
loop-common-preserved c =
    let a = c.args in
    let n = c.loop-common.common in
    let next : place_of_pairs a.sides.total a.sides.most a.first a.second n + 1 ≡ place_of_pairs a.sides.total a.sides.most a.first a.second (n + 1) = omega arith in (
      c.sum_up_cell.ensures.length,
      λ size_bits bounds so.
          subst (λ p. IsTurned a.sides.total a.sides.most p (pairs_up_to size_bits bounds) (pairs_of_sums size_bits bounds) c.sum_up_cell.new.table) next
          (c.sum_up_cell.ensures.summed size_bits bounds (c.loop-common.invariant.1 size_bits bounds so)),
    )

pub returns-clause-summed : goal.returns-clause-summed
returns-clause-summed c size_bits bounds so =
    let a = c.args in
    let end : c.loop-common.common ≡ a.sides.most + 1 = omega arith in
    subst (λ p. IsTurned a.sides.total a.sides.most p (pairs_up_to size_bits bounds) (pairs_of_sums size_bits bounds) c.loop-common.table)
    (ap (place_of_pairs a.sides.total a.sides.most a.first a.second) end ∙ sym (place-next a.sides.total a.sides.most a.first a.second)) (c.loop-common.invariant.1 size_bits bounds so)
