use Rattle.sgb.proofs.CertainAnswers.{exit_untouched, never, write_certain}
use Rattle.sgb.proofs.Endings.{ended_value, refused_value}
use Rattle.sgb.proofs.runs.answer_queen.Goals as goal

pub returns-in_err-graph-clause-ended : goal.returns-in_err-graph-clause-ended
returns-in_err-graph-clause-ended g c = refused_value _ _ _ _ _ _ _ c.from_residual.ensures.1 c.in_err-graph.ensures c.requires

pub returns-clause-ended : goal.returns-clause-ended
returns-clause-ended g c = ended_value _ c.in_ok-graph.graph _ _ _ c.in_ok-graph.ensures c.write_titled_listing.ensures.written

pub returns-in_err-graph-clause-untouched : goal.returns-in_err-graph-clause-untouched
returns-in_err-graph-clause-untouched g c = exit_untouched _ _

pub returns-clause-untouched : goal.returns-clause-untouched
returns-clause-untouched g c = never _ _ (write_certain _ c.write_titled_listing.ensures.fault)
