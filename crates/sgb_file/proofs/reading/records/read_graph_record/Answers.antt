use Rattle.std.proofs.Common.{◌≡◌, [], refl, ◌∙◌, arith, rules}
use Rattle.std.proofs.lemmas.Result.{err_from_is_err_and}
use Rattle.sgb_graph.specs.Growth.{graph_data}
use Rattle.sgb_file.specs.inner.LinesLeft.{text_left}
use Rattle.sgb_file.proofs.FoundSteps.{graph_found, passing_stopped, stops}
use Rattle.sgb_file.proofs.reading.records.read_graph_record.Goals as goal

pub returns-clause-found : goal.returns-clause-found
returns-clause-found c =
    let same : c.in_ok-n.n ≡ c.args.head.now.counts.vertices = search (rules, arith) in
    let made : c.new.result ≡ graph_data c.in_ok-id.id c.in_ok-m.m c.args.head.now.kinds c.in_ok-util.util [] [] = search rules in
    graph_found _ (text_left c.args.lines.now) _ _ _ _ _ _ _ _ _ _ c.new.result c.in_ok-id.ensures.found c.in_ok-pass_comma.ensures.passed c.in_ok-n.ensures.found c.in_ok-pass_comma-2.ensures.passed
    c.in_ok-m.ensures.found c.in_ok-util.ensures.found same made

pub returns-in_err-pass_comma-clause-found : goal.returns-in_err-pass_comma-clause-found
returns-in_err-pass_comma-clause-found c =
    let p = err_from_is_err_and c.from_residual-in_err-pass_comma.result c.from_residual-in_err-pass_comma.ensures.1 in
    let s = passing_stopped _ c.in_err-pass_comma.field-0.0 _ c.in_err-pass_comma.ensures.passed in
    rw (p.1, p.2, s.0, c.in_ok-id.ensures.found, s.1) refl

pub returns-in_err-pass_comma-clause-all : goal.returns-in_err-pass_comma-clause-all
returns-in_err-pass_comma-clause-all c = c.in_err-pass_comma.ensures.all ∙ c.in_ok-id.ensures.all

pub returns-in_err-n-clause-found : goal.returns-in_err-n-clause-found
returns-in_err-n-clause-found c =
    let p = err_from_is_err_and c.from_residual-in_err-n.result c.from_residual-in_err-n.ensures.1 in
    rw (p.1, p.2) (stops _ _ c.in_err-n.field-0.0 _ _ c.in_err-n.ensures.found (λ none. rw (c.in_ok-id.ensures.found, c.in_ok-pass_comma.ensures.passed, none) refl))

pub returns-in_err-n-clause-all : goal.returns-in_err-n-clause-all
returns-in_err-n-clause-all c = c.in_err-n.ensures.all ∙ (c.in_ok-pass_comma.ensures.all ∙ c.in_ok-id.ensures.all)

pub returns-in_err-pass_comma-2-clause-found : goal.returns-in_err-pass_comma-2-clause-found
returns-in_err-pass_comma-2-clause-found c =
    let p = err_from_is_err_and c.from_residual-in_err-pass_comma-2.result c.from_residual-in_err-pass_comma-2.ensures.1 in
    let s = passing_stopped _ c.in_err-pass_comma-2.field-0.0 _ c.in_err-pass_comma-2.ensures.passed in
    rw (p.1, p.2, s.0, c.in_ok-id.ensures.found, c.in_ok-pass_comma.ensures.passed, c.in_ok-n.ensures.found, s.1) refl

pub returns-in_err-pass_comma-2-clause-all : goal.returns-in_err-pass_comma-2-clause-all
returns-in_err-pass_comma-2-clause-all c = c.in_err-pass_comma-2.ensures.all ∙ (c.in_ok-n.ensures.all ∙ (c.in_ok-pass_comma.ensures.all ∙ c.in_ok-id.ensures.all))

pub returns-in_err-m-clause-found : goal.returns-in_err-m-clause-found
returns-in_err-m-clause-found c =
    let p = err_from_is_err_and c.from_residual-in_err-m.result c.from_residual-in_err-m.ensures.1 in
    rw (p.1, p.2) (stops _ _ c.in_err-m.field-0.0 _ _ c.in_err-m.ensures.found (λ none. rw (c.in_ok-id.ensures.found, c.in_ok-pass_comma.ensures.passed, c.in_ok-n.ensures.found, c.in_ok-pass_comma-2.ensures.passed, none) refl))

pub returns-in_err-m-clause-all : goal.returns-in_err-m-clause-all
returns-in_err-m-clause-all c = c.in_err-m.ensures.all ∙ (c.in_ok-pass_comma-2.ensures.all ∙ (c.in_ok-n.ensures.all ∙ (c.in_ok-pass_comma.ensures.all ∙ c.in_ok-id.ensures.all)))

pub returns-in_err-util-clause-found : goal.returns-in_err-util-clause-found
returns-in_err-util-clause-found c =
    let p = err_from_is_err_and c.from_residual-in_err-util.result c.from_residual-in_err-util.ensures.1 in
    rw (p.1, p.2) (stops _ _ c.in_err-util.field-0.0 _ _ c.in_err-util.ensures.found (λ none. rw (c.in_ok-id.ensures.found, c.in_ok-pass_comma.ensures.passed, c.in_ok-n.ensures.found, c.in_ok-pass_comma-2.ensures.passed, c.in_ok-m.ensures.found, none) refl))

pub returns-in_err-util-clause-all : goal.returns-in_err-util-clause-all
returns-in_err-util-clause-all c = c.in_err-util.ensures.all ∙ (c.in_ok-m.ensures.all ∙ (c.in_ok-pass_comma-2.ensures.all ∙ (c.in_ok-n.ensures.all ∙ (c.in_ok-pass_comma.ensures.all ∙ c.in_ok-id.ensures.all))))

pub returns-clause-all : goal.returns-clause-all
returns-clause-all c = c.in_ok-util.ensures.all ∙ (c.in_ok-m.ensures.all ∙ (c.in_ok-pass_comma-2.ensures.all ∙ (c.in_ok-n.ensures.all ∙ (c.in_ok-pass_comma.ensures.all ∙ c.in_ok-id.ensures.all))))
