use Rattle.sgb_graph.proofs.UniformDraws.{first_taken_makes, used_draw_found, uniform_draw_taken, uniform_draw_only}
use Rattle.sgb_graph.proofs.laws.uniform_draw_law.Goals as goal

pub returns : goal.returns
returns c = record { first = first_taken_makes; found = used_draw_found; taken = uniform_draw_taken; only = uniform_draw_only }
