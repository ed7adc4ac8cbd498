use Rattle.std.proofs.Common.{rules}
use Rattle.sgb_gen.proofs.BoardWalks.{leads}
use Rattle.sgb_gen.proofs.Reaches.{destination-below}
use Rattle.sgb_gen.proofs.accepted.boards.Board.vertex_at.Goals as goal

pub vertex_of-requires : goal.vertex_of-requires
vertex_of-requires c = search (rules, leads, destination-below)
