use Rattle.std.proofs.Common.{inr, refl}
use Rattle.sgb_expr.specs.Expression.{expression_of}
use Rattle.sgb.proofs.CertainAnswers.{never, write_certain}
use Rattle.sgb.proofs.Endings.{all_err, exit_ended}
use Rattle.sgb_levels.proofs.LevelAnswers.{answer_on, answer_refused, written_is}
use Rattle.sgb_levels.proofs.runs.LevelsAnswer.write.Goals as goal

pub returns-in_err-graph-clause-ended : goal.returns-in_err-graph-clause-ended
returns-in_err-graph-clause-ended g c = λ a answer.
    let (value, on, is) = c.in_err-graph.ensures.value in
    exit_ended a _ _ _ c.from_residual.ensures.1 (answer_refused _ _ _ a _ _ _ is c.requires (answer_on c.deref.result.now (expression_of c.args.self.now.expression) value a on (rw c.deref.ensures.value answer)))

pub returns-in_err-distances-clause-ended : goal.returns-in_err-distances-clause-ended
returns-in_err-distances-clause-ended g c = λ a answer.
    let (value, on, is) = c.in_ok-graph.ensures.value in
    exit_ended a _ _ _ c.from_residual-in_err-distances.ensures.1
    (answer_refused _ _ _ a _ _ _ (inr c.in_err-distances.ensures.memory) c.requires (answer_on c.deref.result.now (expression_of c.args.self.now.expression) value a on (rw c.deref.ensures.value answer)))

pub returns-clause-ended : goal.returns-clause-ended
returns-clause-ended g c = λ a answer.
    let (value, on, is) = c.in_ok-graph.ensures.value in
    written_is c.in_ok-graph.graph c.in_ok-distances.distances.items a _ _ c.in_ok-distances.ensures.distances (rw c.as_slice.ensures.value at c.write_lines.ensures.written)
    (rw is at (answer_on c.deref.result.now (expression_of c.args.self.now.expression) value a on (rw c.deref.ensures.value answer)))

pub returns-in_err-graph-clause-untouched : goal.returns-in_err-graph-clause-untouched
returns-in_err-graph-clause-untouched g c = λ prepared. all_err _ c.from_residual.result (λ f one. refl)

pub returns-in_err-distances-clause-untouched : goal.returns-in_err-distances-clause-untouched
returns-in_err-distances-clause-untouched g c = λ prepared. all_err _ c.from_residual-in_err-distances.result (λ f one. refl)

pub returns-clause-untouched : goal.returns-clause-untouched
returns-clause-untouched g c = λ prepared. never _ c.write_lines.result (write_certain c.write_lines.result c.write_lines.ensures.fault)
