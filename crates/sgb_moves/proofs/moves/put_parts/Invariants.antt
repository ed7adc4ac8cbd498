use Rattle.std.proofs.Common.{◌≡◌, drop, length}
use Rattle.sgb_moves.specs.MovedCoordinates.{parts_put}
use Rattle.sgb_moves.proofs.moves.put_parts.Given as goal

-- those from this one on are still to be put
abbrev pub invariant-loop-k : goal.invariant-loop-k
invariant-loop-k l =
    (parts_put l.sizes l.wrap l.x l.l (drop l.k-index l.parts) l.there ≡ parts_put l.sizes l.wrap l.x l.l l.parts l.fn.there)
    × (length l.there ≡ length l.sizes)
