use Rattle.std.proofs.Common.{◌≡◌, ◌≤◌, [], false, length}
use Rattle.std.specs.List.{flat_map}
use Rattle.sgb.specs.inner.Locals.{local_block}
use Rattle.sgb.specs.inner.Remaining.{IsRest}
use Rattle.sgb.proofs.Pages.{PagedSoFar}
use Rattle.sgb.proofs.writing.families.write_blocks.Given as goal

-- the blocks of the vectors that are still to come are left
abbrev pub invariant-loop-x : goal.invariant-loop-x
invariant-loop-x g l =
    let graph = g.L.Listed.graph l.initial.listed in
    PagedSoFar (flat_map (local_block graph) l.fn.vectors) (flat_map (local_block graph) l.left) [] l.page (g.W.Sink.written l.initial.out) (g.W.Sink.written l.out)
    × (g.W.Sink.has_failed l.out ≡ false)
    × IsRest graph.vectors l.left
    × (g.L.Listed.graph l.listed ≡ graph)
    × (g.L.Listed.sort l.listed ≡ g.L.Listed.sort l.initial.listed)
    × (length l.left ≤ length l.fn.vectors)

-- each turn leaves out one vector
abbrev pub decreases-loop-x : goal.decreases-loop-x
decreases-loop-x g l = length l.left
