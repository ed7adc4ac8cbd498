use Rattle.std.proofs.Common.{◌≡◌, ◌+◌, ◌-◌, ◌∷◌, ◌∙◌, ap, arith, subst}
use Rattle.sgb_gen.specs.inner.SubsetsPairs.{IsTurned, pairs_of_sums, pairs_up_to, place_of_pairs}
use Rattle.sgb_gen.proofs.SubsetsPairTables.{place-end, turned-all, turned-from_start}
use Rattle.sgb_gen.proofs.accepted.subsets.pair_sums.take_in.Goals as goal

pub loop-first-init : goal.loop-first-init
loop-first-init c =
    let s = c.args.sides in (
      c.requires.length,
      λ size_bits bounds most has.
          turned-all s.total s.most (place_of_pairs s.total s.most (s.total + 1) 0 0) (pairs_up_to size_bits bounds) (pairs_of_sums size_bits (c.args.bound ∷ bounds)) c.args.table.now (place-end s.total s.most) has,
    )

pub loop-first-preserved : goal.loop-first-preserved
loop-first-preserved c =
    let a = c.args in
    let n = c.loop-first.first in
    let next : n ≡ n - 1 + 1 = omega arith in (
      c.take_in_row.ensures.length,
      λ size_bits bounds most has.
          c.take_in_row.ensures.taken size_bits bounds most
          (subst (λ f. IsTurned a.sides.total a.sides.most (place_of_pairs a.sides.total a.sides.most f 0 0) (pairs_up_to size_bits bounds) (pairs_of_sums size_bits (a.bound ∷ bounds)) c.loop-first.table) next
          (c.loop-first.invariant.1 size_bits bounds most has)),
    )

pub returns-clause-taken : goal.returns-clause-taken
returns-clause-taken c size_bits bounds most has =
    let a = c.args in
    let n = c.loop-first.first in
    let none : n ≡ 0 = omega arith in
    let start : place_of_pairs a.sides.total a.sides.most 0 0 0 ≡ 0 = omega arith in
    turned-from_start a.sides.total a.sides.most (place_of_pairs a.sides.total a.sides.most n 0 0) (pairs_up_to size_bits bounds) (pairs_of_sums size_bits (a.bound ∷ bounds)) c.loop-first.table
    (ap (λ f. place_of_pairs a.sides.total a.sides.most f 0 0) none ∙ start) (c.loop-first.invariant.1 size_bits bounds most has)
