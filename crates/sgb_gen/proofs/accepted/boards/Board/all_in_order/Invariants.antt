use Rattle.std.proofs.Common.{All, take}
use Rattle.sgb_gen.specs.inner.StraightLists.{NeedsNoSort}
use Rattle.sgb_gen.proofs.accepted.boards.Board.all_in_order.Given as goal

-- the arcs by the displacements before this one are in order
abbrev pub invariant-loop-k : goal.invariant-loop-k
invariant-loop-k l = All (NeedsNoSort l.self) (take l.k l.table)
