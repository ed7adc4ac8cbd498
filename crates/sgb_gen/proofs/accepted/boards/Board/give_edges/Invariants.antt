use Rattle.std.proofs.Common.{reverse, take}
use Rattle.sgb_gen.specs.inner.LocalBoards.{arcs_of_starts}
use Rattle.sgb_moves.specs.Moves.{sides_of}
use Rattle.sgb_gen.proofs.ArcsInTurn.{TakenSoFar}
use Rattle.sgb_gen.proofs.accepted.boards.Board.give_edges.Given as goal

-- the arcs of the starts before this one are still to come
abbrev pub invariant-loop-k : goal.invariant-loop-k
invariant-loop-k g l =
    TakenSoFar (g.K.ArcSink.took l.sink) (reverse (arcs_of_starts (sides_of l.self.sizes l.self.wrap) l.self.piece l.u l.x l.t l.back l.starts))
    (reverse (arcs_of_starts (sides_of l.self.sizes l.self.wrap) l.self.piece l.u l.x l.t l.back (take l.k l.starts))) l.fn.room l.fn.out l.room l.out
    × g.K.ArcSink.ready l.sink l.room l.out
