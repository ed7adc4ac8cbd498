use Rattle.std.proofs.Common.{rules}
use Rattle.sgb_gen.proofs.Vertices.{vertex_in_box}
use Rattle.sgb_gen.proofs.accepted.boards.Board.vertex_of.Goals as goal

pub returns-clause-vertex : goal.returns-clause-vertex
returns-clause-vertex c = search (rules, vertex_in_box)
