use Rattle.std.proofs.Common.{◌≡◌, ◌<◌, false, map, length}
use Rattle.std.specs.List.{All, flat_map}
use Rattle.sgb.specs.Texts.{arc_line, block}
use Rattle.sgb.proofs.Pages.{PagedSoFar}
use Rattle.sgb.proofs.writing.listing.push_block.Given as goal

-- the lines of the arcs that are to come are left
abbrev pub invariant-loop-link : goal.invariant-loop-link
invariant-loop-link g l =
    PagedSoFar (block l.graph l.v) (flat_map (arc_line (map (λ v. v.name) l.graph.vertices)) l.link-iterator) l.fn.page l.page (g.W.Sink.written l.fn.out) (g.W.Sink.written l.out)
    × All (λ link. link.tip < length l.graph.vertices) l.link-iterator
    × (g.W.Sink.has_failed l.out ≡ false)
