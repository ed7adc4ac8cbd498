use Rattle.std.proofs.Common.{drop, get_or, refl, ap, arith}
use Rattle.sgb_gen.proofs.SubsetsMovePairs.{pairs-found}
use Rattle.sgb_gen.proofs.SubsetsPairTables.{counts-one_in}
use Rattle.sgb_gen.proofs.accepted.subsets.pairs.pairs_in.Goals as goal

pub loop-k-preserved : goal.loop-k-preserved
loop-k-preserved c =
    let s = c.args.sides in
    let sb = c.args.size_bits in
    let bounds = c.args.bounds.now in
    let others = drop c.loop-k.k bounds in (
      c.take_in.ensures.length,
      counts-one_in sb s.total s.most c.loop-k.k _ bounds c.take_in.new.table (omega arith) (omega arith) refl
          (c.take_in.ensures.taken sb others c.requires.most (c.sum_up.ensures.summed sb others c.loop-k.invariant.1)),
    )

pub returns : goal.returns
returns c =
    let a = c.args in
    pairs-found a.size_bits a.sides.total a.sides.most c.loop-k.k _ a.bounds.now c.loop-k.table (omega arith) c.requires.few c.loop-k.invariant.1 (ap (λ i. get_or c.loop-k.table i 0) c.place_of_pairs.ensures.same)
