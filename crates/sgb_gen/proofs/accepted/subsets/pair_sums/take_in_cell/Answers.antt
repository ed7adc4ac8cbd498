use Rattle.std.proofs.Common.{◌∷◌, arith}
use Rattle.sgb_gen.specs.inner.SubsetsPairs.{pairs_of_sums, pairs_up_to}
use Rattle.sgb_gen.proofs.SubsetsPairTables.{turned-down, turned-past_down}
use Rattle.sgb_gen.proofs.accepted.subsets.pair_sums.take_in_cell.Goals as goal

pub returns-then-max-common-clause-taken : goal.returns-then-max-common-clause-taken
returns-then-max-common-clause-taken c size_bits bounds most so =
    let a = c.args in
    turned-past_down a.sides.total a.sides.most a.first a.second a.common (pairs_up_to size_bits bounds) (pairs_of_sums size_bits (a.bound ∷ bounds)) a.table.now c.requires.second c.requires.common (omega (arith, c.if-max-common.true)) so

pub returns-clause-taken : goal.returns-clause-taken
returns-clause-taken c size_bits bounds most so =
    let a = c.args in
    let place = c.place_of_pairs-place in
    turned-down a.sides.total a.sides.most place.result c.count_pairs.result a.first a.second a.common (pairs_up_to size_bits bounds) (pairs_of_sums size_bits (a.bound ∷ bounds)) a.table.now
    (omega (arith, place.ensures.within, c.requires.length)) place.ensures.same c.requires.second c.requires.common (c.count_pairs.ensures size_bits bounds most so) so
