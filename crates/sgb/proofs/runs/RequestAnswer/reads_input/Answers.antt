use Rattle.sgb.proofs.StdinValues.{some_answer}
use Rattle.sgb.proofs.runs.RequestAnswer.reads_input.Goals as goal

pub returns-clause-answered : goal.returns-clause-answered
returns-clause-answered c = some_answer c.args.self.now
