use Rattle.sgb_expr.specs.Expression.{expression_of}
use Rattle.sgb_levels.proofs.LevelAnswers.{input_answered}
use Rattle.sgb_levels.proofs.runs.LevelsAnswer.reads_input.Goals as goal

pub returns-clause-answered : goal.returns-clause-answered
returns-clause-answered c = input_answered (expression_of c.args.self.now.expression)
