use Rattle.std.proofs.Common.{◌+◌, ◌≤◌, max, arith, get_or, ap}
use Rattle.sgb_gen.specs.inner.SubsetsPairs.{pairs_of_sums, pairs_up_to}
use Rattle.sgb_gen.proofs.SubsetsPairTables.{summed-cell, summed-less, turned-past_up, turned-up}
use Rattle.sgb_gen.proofs.accepted.subsets.pair_sums.sum_up_cell.Goals as goal

pub returns-then-max-common-clause-summed : goal.returns-then-max-common-clause-summed
returns-then-max-common-clause-summed c size_bits bounds so =
    let a = c.args in
    turned-past_up a.sides.total a.sides.most a.first a.second a.common (pairs_up_to size_bits bounds) (pairs_of_sums size_bits bounds) a.table.now c.requires.second c.requires.common (omega (arith, c.if-max-common.true)) so

pub returns-clause-summed : goal.returns-clause-summed
returns-clause-summed c size_bits bounds so =
    let a = c.args in
    let t = a.sides.total in
    let m = a.sides.most in
    let f = a.first in
    let s = a.second in
    let place = c.place_of_pairs-place in
    let used : max f s + a.common ≤ t = omega (arith, c.if-max-common.false, c.max.ensures) in
    let row = c.pairs_below-row.ensures size_bits bounds (summed-less t m f s a.common f (s + 1) size_bits bounds a.table.now used c.requires.common (omega arith) (omega arith) (omega arith) so) in
    let column = c.pairs_below-column.ensures size_bits bounds (summed-less t m f s a.common (f + 1) s size_bits bounds a.table.now used c.requires.common (omega arith) (omega arith) (omega arith) so) in
    let both = c.pairs_below-both.ensures size_bits bounds (summed-less t m f s a.common f s size_bits bounds a.table.now used c.requires.common (omega arith) (omega arith) (omega arith) so) in
    let cell = summed-cell t m f s a.common _ c.with_sums.result _ _ _ size_bits bounds a.table.now used c.requires.common c.with_sums.type_inv so (ap (λ i. get_or a.table.now i 0) place.ensures.same) row column both c.with_sums.ensures in
    turned-up t m place.result c.with_sums.result f s a.common (pairs_up_to size_bits bounds) (pairs_of_sums size_bits bounds) a.table.now (omega (arith, place.ensures.within, c.requires.length)) place.ensures.same c.requires.second c.requires.common cell so
