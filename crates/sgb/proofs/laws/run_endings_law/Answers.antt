use Rattle.sgb.proofs.Endings.{answers_from_err, answers_from_ok}
use Rattle.sgb.proofs.laws.run_endings_law.Goals as goal

pub returns : goal.returns
returns c = record {
  answered = λ failed answer out err left ended. answers_from_ok failed answer out err _ left ended;
  reported = λ failed answer fault out err line ended. answers_from_err _ failed answer fault out err line ended;
}
