use Rattle.sgb_vec.proofs.Common.{rules, to_z-of_z}
use Rattle.sgb_ops.proofs.CircleBoards.{circle_answer}
use Rattle.sgb_ops.proofs.circles.Circle.graph.Goals as goal

pub returns : goal.returns
returns c = search (rules, circle_answer, to_z-of_z)
