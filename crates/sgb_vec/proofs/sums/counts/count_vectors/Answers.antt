use Rattle.sgb_vec.proofs.Common.{rules, ◌≡◌, ℕ, ◌∷◌, sym, ◌∙◌, inl, inr, arith, IfOk-weaker, IfErr-weaker}
use Rattle.sgb_vec.specs.inner.SumRows.{count_of_sum}
use Rattle.sgb_vec.proofs.GreatCounts.{has_great_count-few, has_great_count-none, has_great_count-from_sum, HasGreatSum-same}
use Rattle.sgb_vec.proofs.SumCounts.{count_of_sum-taken}
use Rattle.sgb_vec.proofs.sums.counts.count_vectors.Goals as goal

pub returns-then-bounds-lt2-clause-ok : goal.returns-then-bounds-lt2-clause-ok
returns-then-bounds-lt2-clause-ok c = (has_great_count-few c.args.total c.args.bounds.now (omega arith), c.count_of_one.ensures.count, omega arith)

pub returns-clause-ok : goal.returns-clause-ok
returns-clause-ok c =
    let bounds = c.args.bounds.now in
    let t = c.try_from.ensures in
    let all : c.unwrap-others.result.items ≡ bounds = search rules in
    let same : (k : ℕ) → count_of_sum k bounds ≡ count_of_sum k (c.take_greatest-a.result ∷ c.take_greatest-b.result ∷ c.as_slice.result.now) =
    rw (sym all, c.as_slice.ensures.value) (count_of_sum-taken c.take_greatest-a.result c.take_greatest-b.result c.unwrap-others.result.items c.take_greatest-a.new.bounds.items c.take_greatest-b.new.bounds.items c.take_greatest-a.ensures.counts c.take_greatest-b.ensures.counts) in
    let m = c.sum_of_greatest_count-greatest.result in
    IfOk-weaker c.count_with_two.result _ _ (λ count p.
    (has_great_count-none c.args.total m bounds c.sum_of_greatest_count-greatest.ensures (omega (arith, same m, p.2)), p.0 ∙ sym (same c.args.total), p.1)) c.count_with_two.ensures.ok

pub returns-clause-err : goal.returns-clause-err
returns-clause-err c =
    let bounds = c.args.bounds.now in
    let all : c.unwrap-others.result.items ≡ bounds = search rules in
    let same : (k : ℕ) → count_of_sum k bounds ≡ count_of_sum k (c.take_greatest-a.result ∷ c.take_greatest-b.result ∷ c.as_slice.result.now) =
    rw (sym all, c.as_slice.ensures.value) (count_of_sum-taken c.take_greatest-a.result c.take_greatest-b.result c.unwrap-others.result.items c.take_greatest-a.new.bounds.items c.take_greatest-b.new.bounds.items c.take_greatest-a.ensures.counts c.take_greatest-b.ensures.counts) in
    IfErr-weaker c.count_with_two.result _ _ (λ panic p. elim p [
      | inl great ↦ inl (great.0, has_great_count-from_sum c.args.total bounds (omega arith) (HasGreatSum-same c.args.total _ bounds same great.1))
      | inr none ↦ inr none
    ]) c.count_with_two.ensures.err
