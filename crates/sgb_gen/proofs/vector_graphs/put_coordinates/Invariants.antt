use Rattle.std.proofs.Common.{◌≡◌, drop}
use Rattle.sgb_gen.proofs.Coordinates.{HasSomeCoordinates}
use Rattle.sgb_gen.proofs.vector_graphs.put_coordinates.Given as goal

-- the vertices before this one have their coordinates
abbrev pub invariant-loop-u : goal.invariant-loop-u
invariant-loop-u g l =
    (l.left ≡ drop l.u (g.F.Family.members l.family))
    × HasSomeCoordinates (g.F.Family.members l.family) l.u l.fn.graph l.graph
