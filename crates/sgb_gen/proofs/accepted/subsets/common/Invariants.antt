use Rattle.std.proofs.Common.{◌≡◌, ◌+◌}
use Rattle.sgb_gen.specs.Subsets.{common_size}
use Rattle.sgb_gen.proofs.CommonSizes.{common_of_chunks}
use Rattle.sgb_gen.proofs.accepted.subsets.common.Given as goal

-- the chunks so far are counted; the others, and the entries after all chunks, are not
abbrev pub invariant-loop-x : goal.invariant-loop-x
invariant-loop-x l =
    l.total + (common_of_chunks l.x-iterator.a.rest.now l.x-iterator.b.rest.now + common_size l.our_rest l.their_rest)
    ≡ common_size l.u l.v
