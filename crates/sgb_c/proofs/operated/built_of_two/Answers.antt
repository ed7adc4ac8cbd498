use Rattle.std.proofs.Common.{rules}
use Rattle.sgb_c.proofs.MadeGraphs.{memory_answer}
use Rattle.sgb_c.proofs.operated.built_of_two.Goals as goal

pub returns-in_err-right : goal.returns-in_err-right
returns-in_err-right c = search (rules, memory_answer)
