use Rattle.std.proofs.Common.{◌≤◌, ◌+◌, ◌*◌, drop, length}
use Rattle.sgb_moves.specs.MovedCoordinates.{parts_put}
use Rattle.sgb.proofs.MovedNames.{IsMovedSoFar}
use Rattle.sgb.proofs.writing.kept_names.KeptName.push_moved.Given as goal

-- the coordinates from this one on are still to be put
abbrev pub invariant-loop-k : goal.invariant-loop-k
invariant-loop-k l = record {
  moved : IsMovedSoFar (parts_put l.span.sizes l.span.wrap l.self l.l) (parts_put l.span.sizes l.span.wrap l.self l.l l.span.parts l.self) l.self (drop l.k-index l.span.parts) l.place l.fn.page l.page;
  short : length l.page ≤ length l.fn.page + 11 * l.place;
  within : l.place ≤ length l.self;
}
