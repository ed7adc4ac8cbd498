use Rattle.std.proofs.Common.{drop}
use Rattle.std.specs.List.{flat_map}
use Rattle.sgb_graph.proofs.AddedEvents.{AddsUpTo}
use Rattle.sgb_gen.proofs.BoardEvents.{events_by, events_of}
use Rattle.sgb_gen.proofs.accepted.boards.Board.add_arcs_by.Given as goal

-- the moves by the displacements from number k on are still to come
abbrev pub invariant-loop-k : goal.invariant-loop-k
invariant-loop-k l = AddsUpTo l.self.directed l.fn.graph l.graph (flat_map (events_by l.self) (drop l.k l.table)) (events_of l.self)
