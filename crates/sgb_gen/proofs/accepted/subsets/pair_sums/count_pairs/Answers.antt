use Rattle.std.proofs.Common.{◌+◌, ◌-◌, arith, refl}
use Rattle.sgb_gen.proofs.SubsetsPairs.{from-end, from-next, from-start}
use Rattle.sgb_gen.proofs.SubsetsPairTables.{summed-before}
use Rattle.sgb_gen.proofs.accepted.subsets.pair_sums.count_pairs.Goals as goal

pub loop-entry-init : goal.loop-entry-init
loop-entry-init c size_bits bounds most so = omega (arith, from-start size_bits c.args.bound c.args.common c.args.first c.args.second bounds)

pub loop-entry-preserved : goal.loop-entry-preserved
loop-entry-preserved c size_bits bounds most so =
    let a = c.args in
    let m = c.loop-entry.entry in
    let p = a.first - c.min.result in
    let s = a.second - c.min-2.result in
    let summed = summed-before a.sides.total a.sides.most _ a.first a.second a.common m (a.first - m + 1) (a.second - m + 1) (a.common + m) size_bits a.bound bounds a.table.now refl c.requires.used (omega arith) (omega arith) (omega arith) refl refl refl so in
    let next = from-next size_bits a.bound a.common a.first a.second m (a.first - m) (a.second - m) p s (a.common + m) bounds (omega arith) (omega arith) refl refl (omega (arith, c.min.ensures)) (omega (arith, c.min-2.ensures)) refl in
    omega (arith, c.loop-entry.invariant size_bits bounds most so, c.count_with-more.ensures size_bits bounds summed, next)

pub returns : goal.returns
returns c size_bits bounds most so =
    let a = c.args in
    let end = from-end size_bits a.sides.total a.sides.most a.bound a.common a.first a.second c.loop-entry.entry bounds most c.requires.used c.requires.common (omega arith) in
    omega (arith, c.loop-entry.invariant size_bits bounds most so, end)
