use Rattle.std.proofs.Common.{◌≡◌, ◌+◌, ◌-◌, ◌∷◌, arith, subst}
use Rattle.sgb_gen.specs.inner.SubsetsPairs.{IsTurned, pairs_of_sums, pairs_up_to, place_of_pairs}
use Rattle.sgb_gen.proofs.accepted.subsets.pair_sums.take_in_row.Goals as goal

pub loop-second-preserved : goal.loop-second-preserved
loop-second-preserved c =
    let a = c.args in
    let n = c.loop-second.second in
    let next : n ≡ n - 1 + 1 = omega arith in (
      c.take_in_cells.ensures.length,
      λ size_bits bounds most so.
          c.take_in_cells.ensures.taken size_bits bounds most
          (subst (λ s. IsTurned a.sides.total a.sides.most (place_of_pairs a.sides.total a.sides.most a.first s 0) (pairs_up_to size_bits bounds) (pairs_of_sums size_bits (a.bound ∷ bounds)) c.loop-second.table) next
          (c.loop-second.invariant.1 size_bits bounds most so)),
    )

pub returns-clause-taken : goal.returns-clause-taken
returns-clause-taken c size_bits bounds most so =
    let a = c.args in
    let none : c.loop-second.second ≡ 0 = omega arith in
    subst (λ s. IsTurned a.sides.total a.sides.most (place_of_pairs a.sides.total a.sides.most a.first s 0) (pairs_up_to size_bits bounds) (pairs_of_sums size_bits (a.bound ∷ bounds)) c.loop-second.table) none
    (c.loop-second.invariant.1 size_bits bounds most so)
