use Rattle.sgb.proofs.CertainAnswers.{at_once_other, at_once_unmade, exit_panic, exit_untouched, never, write_certain}
use Rattle.sgb.proofs.Endings.{ended_value, refused_value}
use Rattle.sgb.proofs.runs.answer_save.Goals as goal

pub returns-in_err-graph-clause-ended : goal.returns-in_err-graph-clause-ended
returns-in_err-graph-clause-ended g c =
    let (value, on, is) = c.in_err-graph.ensures.value in
    (value, on, refused_value _ _ _ _ _ _ _ c.from_residual.ensures.1 is c.requires)

pub returns-clause-ended : goal.returns-clause-ended
returns-clause-ended g c =
    let (value, on, is) = c.in_ok-graph.ensures.value in
    (value, on, ended_value _ c.in_ok-graph.graph _ _ _ is c.write_file.ensures.written)

pub returns-in_err-graph-clause-certain : goal.returns-in_err-graph-clause-certain
returns-in_err-graph-clause-certain g c = λ needs.
    exit_panic _ _ c.from_residual.ensures.1 (at_once_other c.args.input.items c.args.expression.now _ c.in_err-graph.ensures.refused needs)

pub returns-clause-certain : goal.returns-clause-certain
returns-clause-certain g c = λ needs. at_once_unmade c.args.input.items c.args.expression.now _ _ c.in_ok-graph.ensures.refused needs

pub returns-in_err-graph-clause-untouched : goal.returns-in_err-graph-clause-untouched
returns-in_err-graph-clause-untouched g c = exit_untouched _ _

pub returns-clause-untouched : goal.returns-clause-untouched
returns-clause-untouched g c = never _ _ (write_certain _ c.write_file.ensures.fault)
