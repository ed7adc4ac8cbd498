use Rattle.sgb_vec.proofs.Common.{◌∙◌, ◌==◌, refl, sym, arith, nat_tests, IsStrictlySortedBy-dedup}
use Rattle.std.proofs.lemmas.Cmp.{nat_cmp_total}
use Rattle.std.proofs.lemmas.List.Filters.{dedup_is}
use Rattle.std.proofs.lemmas.List.Sorted.{list_any-IsPermutation}
use Rattle.sgb_ops.proofs.CopiedArcs.{among_deduped, rises}
use Rattle.sgb_ops.proofs.complements.put_in_order.Goals as goal

pub returns-clause-rise : goal.returns-clause-rise
returns-clause-rise c =
    rw (dedup_is _ _ _ c.dedup.ensures.filtered) (rises _ (IsStrictlySortedBy-dedup nat_cmp_total (λ x y. grind (arith, nat_tests)) _ c.sort_unstable.ensures.sorted))

pub returns-clause-same : goal.returns-clause-same
returns-clause-same c w =
    rw (dedup_is _ _ _ c.dedup.ensures.filtered) (among_deduped _ (λ x y. refl) w _ ∙ sym (list_any-IsPermutation (λ t. t == w) _ _ c.sort_unstable.ensures.permutation))
