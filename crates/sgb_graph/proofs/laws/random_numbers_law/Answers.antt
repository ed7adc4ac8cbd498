use Rattle.std.proofs.Common.{arith}
use Rattle.sgb_graph.proofs.DrawLemmas.{first_number, start_number, later_number}
use Rattle.sgb_graph.proofs.laws.random_numbers_law.Goals as goal

pub returns : goal.returns
returns c = record { seed = λ seed. first_number seed 54 (omega arith); first = start_number; later = later_number }
