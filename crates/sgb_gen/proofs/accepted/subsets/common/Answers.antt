use Rattle.std.proofs.Common.{rules, arith, ◌+◌, ◌≡◌}
use Rattle.sgb_gen.specs.Subsets.{common_size}
use Rattle.sgb_gen.proofs.CommonSizes.{chunks_and_rest, common_of_chunks, common_small, next_counted, no_chunks, one_ends}
use Rattle.sgb_gen.proofs.accepted.subsets.common.Goals as goal

pub loop-x-init : goal.loop-x-init
loop-x-init c = search (rules, chunks_and_rest)

-- what is counted with the chunks of this turn
counted : (c : goal.After-common_in_chunk-total) →
    c.loop-x.total + c.common_in_chunk-total.result
    + (common_of_chunks c.next.new.self.a.rest.now c.next.new.self.b.rest.now + common_size c.as_chunks.result.1.now c.as_chunks-2.result.1.now)
    ≡ common_size c.args.u.now c.args.v.now
counted c =
    rw c.common_in_chunk-total.ensures
    (next_counted _ _ _ _ _ _ _ _ _ c.in-Some.ensures.steps.0 c.in-Some.ensures.steps.1 c.loop-x.invariant)

pub overflow_add-total : goal.overflow_add-total
overflow_add-total c =
    omega (arith, counted c, c.requires.fits, common_small c.args.u.now c.args.v.now (λ i. omega (arith, c.type_inv.u i)))

pub loop-x-preserved : goal.loop-x-preserved
loop-x-preserved c = counted c

pub overflow_add-result : goal.overflow_add-result
overflow_add-result c = search (rules, common_small)

pub returns : goal.returns
returns c = omega (arith, c.loop-x.invariant, c.common_one_by_one.ensures, no_chunks c.loop-x.x-iterator.a.rest.now c.loop-x.x-iterator.b.rest.now (one_ends c.in-None.ensures.steps))
