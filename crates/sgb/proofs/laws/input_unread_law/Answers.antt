use Rattle.sgb.proofs.StdinValues.{answer_unread}
use Rattle.sgb.proofs.laws.input_unread_law.Goals as goal

pub returns : goal.returns
returns c = answer_unread
