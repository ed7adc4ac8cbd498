use Rattle.std.proofs.Common.{◌≡◌, ◌+◌, ◌∙◌, ap, arith}
use Rattle.sgb_gen.specs.inner.SubsetsPairs.{pairs_of_sums, pairs_up_to, place_of_pairs}
use Rattle.sgb_gen.proofs.SubsetsPairTables.{place-end, turned-before_end, turned-none}
use Rattle.sgb_gen.proofs.accepted.subsets.pair_sums.sum_up.Goals as goal

pub loop-first-init : goal.loop-first-init
loop-first-init c =
    let s = c.args.sides in
    (c.requires.length, λ size_bits bounds has. turned-none s.total s.most (place_of_pairs s.total s.most 0 0 0) (pairs_up_to size_bits bounds) (pairs_of_sums size_bits bounds) c.args.table.now (omega arith) has)

pub loop-first-preserved : goal.loop-first-preserved
loop-first-preserved c = (c.sum_up_row.ensures.length, λ size_bits bounds has. c.sum_up_row.ensures.summed size_bits bounds (c.loop-first.invariant.1 size_bits bounds has))

pub returns-clause-summed : goal.returns-clause-summed
returns-clause-summed c size_bits bounds has =
    let s = c.args.sides in
    let end : c.loop-first.first ≡ s.total + 1 = omega arith in
    turned-before_end s.total s.most (place_of_pairs s.total s.most c.loop-first.first 0 0) (pairs_up_to size_bits bounds) (pairs_of_sums size_bits bounds) c.loop-first.table
    (ap (λ f. place_of_pairs s.total s.most f 0 0) end ∙ place-end s.total s.most) (c.loop-first.invariant.1 size_bits bounds has)
