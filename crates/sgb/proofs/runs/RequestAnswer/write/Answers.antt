use Rattle.sgb.proofs.StdinValues.{answer_only}
use Rattle.sgb.proofs.runs.RequestAnswer.write.Goals as goal

pub returns-clause-ended : goal.returns-clause-ended
returns-clause-ended g c = λ a is.
    let (answer, also, ended) = c.write_answer.ensures.ended in
    rw (answer_only c.args.self.now c.args.input.items a answer is also) ended

pub returns-clause-untouched : goal.returns-clause-untouched
returns-clause-untouched g c = λ prepared. c.write_answer.ensures.untouched
