use Rattle.sgb_vec.proofs.Common.{rules, to_z-of_z}
use Rattle.sgb_ops.proofs.CircleBoards.{made_around}
use Rattle.sgb_ops.proofs.circles.Circle.new.Goals as goal

pub returns : goal.returns
returns c = search (rules, made_around, to_z-of_z)
