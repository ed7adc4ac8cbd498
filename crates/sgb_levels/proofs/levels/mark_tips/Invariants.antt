use Rattle.std.proofs.Common.{◌≡◌, ◌<◌, map, length}
use Rattle.std.specs.List.{All}
use Rattle.sgb_levels.specs.inner.Searches.{tips_from}
use Rattle.sgb_levels.specs.inner.Marks.{all_marked, marks}
use Rattle.sgb_levels.proofs.levels.mark_tips.Given as goal

-- the vertices where the arcs to come lead are still to be marked
abbrev pub invariant-loop-link : goal.invariant-loop-link
invariant-loop-link l = record {
  marks : all_marked l.distance (map (λ k. k.tip) l.link-iterator) (marks l.found l.next.items) ≡ all_marked l.distance (tips_from l.graph l.v) (marks l.fn.found l.fn.next.items);
  tips : All (λ k. k.tip < length l.graph.vertices) l.link-iterator;
  size : length l.found ≡ length l.fn.found;
}
