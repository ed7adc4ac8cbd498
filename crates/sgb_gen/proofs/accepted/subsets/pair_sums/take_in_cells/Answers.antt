use Rattle.std.proofs.Common.{◌≡◌, ◌+◌, ◌-◌, ◌∷◌, arith, subst}
use Rattle.sgb_gen.specs.inner.SubsetsPairs.{IsTurned, pairs_of_sums, pairs_up_to, place_of_pairs}
use Rattle.sgb_gen.proofs.SubsetsPairTables.{place-next}
use Rattle.sgb_gen.proofs.accepted.subsets.pair_sums.take_in_cells.Goals as goal

pub loop-common-init : goal.loop-common-init
loop-common-init c =
    let a = c.args in
    (c.requires.length, λ size_bits bounds most so. subst (λ p. IsTurned a.sides.total a.sides.most p (pairs_up_to size_bits bounds) (pairs_of_sums size_bits (a.bound ∷ bounds)) a.table.now) (place-next a.sides.total a.sides.most a.first a.second) so)

pub take_in_cell-requires-clause-common : goal.take_in_cell-requires-clause-common
take_in_cell-requires-clause-common c = omega arith

pub loop-common-preserved : goal.loop-common-preserved
loop-common-preserved c =
    let a = c.args in
    let n = c.loop-common.common in
    let next : place_of_pairs a.sides.total a.sides.most a.first a.second n ≡ place_of_pairs a.sides.total a.sides.most a.first a.second (n - 1) + 1 = omega arith in (
      c.take_in_cell.ensures.length,
      λ size_bits bounds most so.
          c.take_in_cell.ensures.taken size_bits bounds most
          (subst (λ p. IsTurned a.sides.total a.sides.most p (pairs_up_to size_bits bounds) (pairs_of_sums size_bits (a.bound ∷ bounds)) c.loop-common.table) next
          (c.loop-common.invariant.1 size_bits bounds most so)),
    )

pub returns-clause-taken : goal.returns-clause-taken
returns-clause-taken c size_bits bounds most so =
    let a = c.args in
    let none : c.loop-common.common ≡ 0 = omega arith in
    subst (λ n. IsTurned a.sides.total a.sides.most (place_of_pairs a.sides.total a.sides.most a.first a.second n) (pairs_up_to size_bits bounds) (pairs_of_sums size_bits (a.bound ∷ bounds)) c.loop-common.table) none
    (c.loop-common.invariant.1 size_bits bounds most so)
