use Rattle.std.proofs.Common.{◌≡◌, drop, length}
use Rattle.sgb_moves.specs.MovedCoordinates.{parts_put}
use Rattle.sgb_moves.specs.inner.MovedCoordinates.{parts_stay}
use Rattle.sgb_moves.proofs.moves.move_parts.Given as goal

-- those before this one lead to coordinates, which are put; those from it on are still to be
abbrev pub invariant-loop-k : goal.invariant-loop-k
invariant-loop-k l =
    (parts_stay l.sizes l.wrap l.x l.l (drop l.k-index l.parts) ≡ parts_stay l.sizes l.wrap l.x l.l l.parts)
    × (parts_put l.sizes l.wrap l.x l.l (drop l.k-index l.parts) l.there ≡ parts_put l.sizes l.wrap l.x l.l l.parts l.fn.there)
    × (length l.there ≡ length l.sizes)
