use Rattle.std.proofs.Common.{◌≡◌, [], false, length, map}
use Rattle.std.specs.List.{flat_map}
use Rattle.sgb_vec.specs.Names.{name_of_vector}
use Rattle.sgb.specs.Texts.{name_line}
use Rattle.sgb.proofs.Pages.{PagedSoFar}
use Rattle.sgb.proofs.writing.names.write_all.Given as goal

-- the lines of the vectors that are still to come are left
abbrev pub invariant-loop-vector : goal.invariant-loop-vector
invariant-loop-vector g l =
    PagedSoFar (flat_map name_line (map name_of_vector l.fn.vectors)) (flat_map name_line (map name_of_vector l.left))
    [] l.page (g.W.Sink.written l.initial.out) (g.W.Sink.written l.out)
    × (g.W.Sink.has_failed l.out ≡ false)

-- each turn leaves out one vector
abbrev pub decreases-loop-vector : goal.decreases-loop-vector
decreases-loop-vector g l = length l.left
