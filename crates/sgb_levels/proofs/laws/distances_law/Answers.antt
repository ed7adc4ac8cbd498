use Rattle.sgb_levels.proofs.LevelAnswers.{answers_only, distances_only, input_answered}
use Rattle.sgb_levels.proofs.Searching.{distances_found}
use Rattle.sgb_levels.proofs.laws.distances_law.Goals as goal

pub returns : goal.returns
returns c = record {
  distances = λ g. let (found, are) = distances_found g in (found, are, λ others also. distances_only g 0 others found also are);
  answer = λ e input. let (a, is) = input_answered e input in (a, is, λ other also. answers_only e input other a also is);
}
