use Rattle.std.proofs.Common.{◌≡◌, [], drop, length}
use Rattle.std.specs.List.{flat_map}
use Rattle.sgb_levels.specs.inner.Searches.{tips_from}
use Rattle.sgb_levels.specs.inner.Marks.{all_marked, marks}
use Rattle.sgb_levels.proofs.levels.next_level.Given as goal

-- the vertices of the level from here on are still to be left
abbrev pub invariant-loop-v : goal.invariant-loop-v
invariant-loop-v l = record {
  marks : all_marked l.distance (flat_map (tips_from l.graph) (drop l.v-index l.level)) (marks l.found l.next.items) ≡ all_marked l.distance (flat_map (tips_from l.graph) l.level) (marks l.fn.found []);
  size : length l.found ≡ length l.fn.found;
}
