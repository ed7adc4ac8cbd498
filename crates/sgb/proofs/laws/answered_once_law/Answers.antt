use Rattle.sgb.specs.Outcomes.{answer_of}
use Rattle.sgb_values.specs.Values.{value_of}
use Rattle.sgb_values.proofs.StdinValues.{some_on}
use Rattle.sgb.proofs.laws.answered_once_law.Goals as goal

pub returns : goal.returns
returns c = record { value = λ e input. some_on (λ stdin. value_of stdin e) input; answer = λ r input. some_on (answer_of r) input }
