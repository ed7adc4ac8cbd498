use Rattle.sgb_vec.proofs.Common.{ℕ, List, Bor, ◌∙◌, at_drop_more, err_from_is_err_and, flat_map}
use Rattle.sgb_file.proofs.SoFar.{so_far-more, so_far-prefix}
use Rattle.sgb_file.proofs.saving.put_texts.Goals as goal

pub returns-in_err-put_all-clause-put : goal.returns-in_err-put_all-clause-put
returns-in_err-put_all-clause-put g c =
    let p = err_from_is_err_and c.from_residual.result c.from_residual.ensures.1 in
    let first = at_drop_more (flat_map (λ (text : Bor (List ℕ)). text.now)) c.args.texts.now c.loop-text.text-index _ c.loop-text-test.true in
    rw p.1 (so_far-prefix _ _ _ _ _ _ _ first c.loop-text.invariant.0 c.in_err-put_all.ensures.put.0, c.in_err-put_all.ensures.put.1)

pub loop-text-preserved : goal.loop-text-preserved
loop-text-preserved g c =
    let first = at_drop_more (flat_map (λ (text : Bor (List ℕ)). text.now)) c.args.texts.now c.loop-text.text-index _ c.loop-text-test.true in
    (so_far-more _ _ _ _ _ _ _ first c.loop-text.invariant.0 c.in_ok-put_all.ensures.put, c.in_ok-put_all.ensures.sound ∙ c.loop-text.invariant.1)
