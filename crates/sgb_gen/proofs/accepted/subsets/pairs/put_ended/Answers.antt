use Rattle.std.proofs.Common.{◌<◌, refl, length, ap, ◌∙◌, arith}
use Rattle.std.proofs.lemmas.List.{length-replicate, length-set}
use Rattle.sgb_gen.specs.inner.SubsetsPairs.{cell_count}
use Rattle.sgb_gen.proofs.SubsetsPairTables.{ended_pairs-all, ended_pairs-more, ended_pairs-none, place-within}
use Rattle.sgb_gen.proofs.accepted.subsets.pairs.put_ended.Goals as goal

pub loop-common-init : goal.loop-common-init
loop-common-init c = (refl, ended_pairs-none c.args.size_bits (cell_count c.args.sides.total c.args.sides.most) c.args.table.now c.requires.zeros)

pub loop-common-preserved : goal.loop-common-preserved
loop-common-preserved c =
    let s = c.args.sides in
    let n = c.loop-common.common in
    let table = c.loop-common.table in
    let long = ap length c.requires.zeros ∙ length-replicate (cell_count s.total s.most) 0 in
    let inside : n < length table = omega (arith, place-within s.total s.most 0 0 n (omega arith) (omega arith) (omega arith), long, c.loop-common.invariant.0) in
    (length-set table n c.count_ended.result ∙ c.loop-common.invariant.0, ended_pairs-more c.args.size_bits n c.count_ended.result table inside c.count_ended.ensures c.loop-common.invariant.1)

pub returns-clause-length : goal.returns-clause-length
returns-clause-length c = c.loop-common.invariant.0 ∙ ap length c.requires.zeros ∙ length-replicate (cell_count c.args.sides.total c.args.sides.most) 0

pub returns-clause-pairs : goal.returns-clause-pairs
returns-clause-pairs c = ended_pairs-all c.args.size_bits c.args.sides.total c.args.sides.most c.loop-common.common c.loop-common.table (omega arith) c.loop-common.invariant.1
