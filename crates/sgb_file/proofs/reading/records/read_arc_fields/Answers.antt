use Rattle.std.proofs.Common.{refl, ◌∙◌}
use Rattle.std.proofs.lemmas.Result.{err_from_is_err_and}
use Rattle.sgb_file.proofs.FoundSteps.{passing_stopped, stops}
use Rattle.sgb_file.proofs.reading.records.read_arc_fields.Goals as goal

pub returns-in_err-next-clause-found : goal.returns-in_err-next-clause-found
returns-in_err-next-clause-found c =
    let p = err_from_is_err_and c.from_residual-in_err-next.result c.from_residual-in_err-next.ensures.1 in
    rw (p.1, p.2) (stops _ _ c.in_err-next.field-0.0 _ _ c.in_err-next.ensures.found (λ none. rw (← c.head.view_is, c.in_ok-tip.ensures.found, c.in_ok-pass_comma.ensures.passed, none) refl))

pub returns-in_err-next-clause-all : goal.returns-in_err-next-clause-all
returns-in_err-next-clause-all c = c.in_err-next.ensures.all ∙ (c.in_ok-pass_comma.ensures.all ∙ c.in_ok-tip.ensures.all)

pub returns-in_err-pass_comma-2-clause-found : goal.returns-in_err-pass_comma-2-clause-found
returns-in_err-pass_comma-2-clause-found c =
    let p = err_from_is_err_and c.from_residual-in_err-pass_comma-2.result c.from_residual-in_err-pass_comma-2.ensures.1 in
    let s = passing_stopped _ c.in_err-pass_comma-2.field-0.0 _ c.in_err-pass_comma-2.ensures.passed in
    rw (p.1, p.2, s.0, ← c.head.view_is, c.in_ok-tip.ensures.found, c.in_ok-pass_comma.ensures.passed, c.in_ok-next.ensures.found, s.1) refl

pub returns-in_err-pass_comma-2-clause-all : goal.returns-in_err-pass_comma-2-clause-all
returns-in_err-pass_comma-2-clause-all c = c.in_err-pass_comma-2.ensures.all ∙ (c.in_ok-next.ensures.all ∙ (c.in_ok-pass_comma.ensures.all ∙ c.in_ok-tip.ensures.all))

pub returns-in_err-len-clause-found : goal.returns-in_err-len-clause-found
returns-in_err-len-clause-found c =
    let p = err_from_is_err_and c.from_residual-in_err-len.result c.from_residual-in_err-len.ensures.1 in
    rw (p.1, p.2) (stops _ _ c.in_err-len.field-0.0 _ _ c.in_err-len.ensures.found (λ none. rw (← c.head.view_is, c.in_ok-tip.ensures.found, c.in_ok-pass_comma.ensures.passed, c.in_ok-next.ensures.found, c.in_ok-pass_comma-2.ensures.passed, none) refl))

pub returns-in_err-len-clause-all : goal.returns-in_err-len-clause-all
returns-in_err-len-clause-all c = c.in_err-len.ensures.all ∙ (c.in_ok-pass_comma-2.ensures.all ∙ (c.in_ok-next.ensures.all ∙ (c.in_ok-pass_comma.ensures.all ∙ c.in_ok-tip.ensures.all)))

pub returns-in_err-a-clause-found : goal.returns-in_err-a-clause-found
returns-in_err-a-clause-found c =
    let p = err_from_is_err_and c.from_residual-in_err-a.result c.from_residual-in_err-a.ensures.1 in
    rw (p.1, p.2) (stops _ _ c.in_err-a.field-0.0 _ _ c.in_err-a.ensures.found (λ none. rw (← c.head.view_is, c.in_ok-tip.ensures.found, c.in_ok-pass_comma.ensures.passed, c.in_ok-next.ensures.found, c.in_ok-pass_comma-2.ensures.passed, c.in_ok-len.ensures.found, none) refl))

pub returns-in_err-a-clause-all : goal.returns-in_err-a-clause-all
returns-in_err-a-clause-all c = c.in_err-a.ensures.all ∙ (c.in_ok-len.ensures.all ∙ (c.in_ok-pass_comma-2.ensures.all ∙ (c.in_ok-next.ensures.all ∙ (c.in_ok-pass_comma.ensures.all ∙ c.in_ok-tip.ensures.all))))

pub returns-in_err-b-clause-found : goal.returns-in_err-b-clause-found
returns-in_err-b-clause-found c =
    let p = err_from_is_err_and c.from_residual-in_err-b.result c.from_residual-in_err-b.ensures.1 in
    rw (p.1, p.2) (stops _ _ c.in_err-b.field-0.0 _ _ c.in_err-b.ensures.found (λ none. rw (← c.head.view_is, c.in_ok-tip.ensures.found, c.in_ok-pass_comma.ensures.passed, c.in_ok-next.ensures.found, c.in_ok-pass_comma-2.ensures.passed, c.in_ok-len.ensures.found, c.in_ok-a.ensures.found, none) refl))

pub returns-in_err-b-clause-all : goal.returns-in_err-b-clause-all
returns-in_err-b-clause-all c = c.in_err-b.ensures.all ∙ (c.in_ok-a.ensures.all ∙ (c.in_ok-len.ensures.all ∙ (c.in_ok-pass_comma-2.ensures.all ∙ (c.in_ok-next.ensures.all ∙ (c.in_ok-pass_comma.ensures.all ∙ c.in_ok-tip.ensures.all)))))

pub returns-in_err-end_record-clause-found : goal.returns-in_err-end_record-clause-found
returns-in_err-end_record-clause-found c =
    let p = err_from_is_err_and c.from_residual-in_err-end_record.result c.from_residual-in_err-end_record.ensures.1 in
    let s = passing_stopped _ c.in_err-end_record.field-0.0 _ c.in_err-end_record.ensures.passed in
    rw (p.1, p.2, s.0, ← c.head.view_is, c.in_ok-tip.ensures.found, c.in_ok-pass_comma.ensures.passed, c.in_ok-next.ensures.found, c.in_ok-pass_comma-2.ensures.passed, c.in_ok-len.ensures.found, c.in_ok-a.ensures.found, c.in_ok-b.ensures.found, s.1) refl

pub returns-in_err-end_record-clause-all : goal.returns-in_err-end_record-clause-all
returns-in_err-end_record-clause-all c = c.in_err-end_record.ensures.all ∙ (c.in_ok-b.ensures.all ∙ (c.in_ok-a.ensures.all ∙ (c.in_ok-len.ensures.all ∙ (c.in_ok-pass_comma-2.ensures.all ∙ (c.in_ok-next.ensures.all ∙ (c.in_ok-pass_comma.ensures.all ∙ c.in_ok-tip.ensures.all))))))

pub returns-clause-all : goal.returns-clause-all
returns-clause-all c = c.in_ok-end_record.ensures.all ∙ (c.in_ok-b.ensures.all ∙ (c.in_ok-a.ensures.all ∙ (c.in_ok-len.ensures.all ∙ (c.in_ok-pass_comma-2.ensures.all ∙ (c.in_ok-next.ensures.all ∙ (c.in_ok-pass_comma.ensures.all ∙ c.in_ok-tip.ensures.all))))))

pub returns-in_err-a-clause-kinds : goal.returns-in_err-a-clause-kinds
returns-in_err-a-clause-kinds c = rw (← c.head.view_is) c.head.invariant

pub returns-in_err-b-clause-kinds : goal.returns-in_err-b-clause-kinds
returns-in_err-b-clause-kinds c = rw (← c.head.view_is) c.head.invariant

pub returns-in_err-end_record-clause-kinds : goal.returns-in_err-end_record-clause-kinds
returns-in_err-end_record-clause-kinds c = rw (← c.head.view_is) c.head.invariant

pub returns-clause-kinds : goal.returns-clause-kinds
returns-clause-kinds c = rw (← c.head.view_is) c.head.invariant
