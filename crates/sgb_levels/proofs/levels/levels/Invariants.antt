use Rattle.std.proofs.Common.{◌+◌, ◌≤◌, length}
use Rattle.sgb_levels.specs.inner.Searches.{IsSearched, unmarked}
use Rattle.sgb_levels.proofs.levels.levels.Given as goal

-- each level has a vertex, so there are no more levels than vertices
abbrev pub invariant-loop-alloc : goal.invariant-loop-alloc
invariant-loop-alloc l = record {
  searched : IsSearched l.graph l.distance l.found.items l.level.items;
  left : l.distance + (unmarked l.found.items + length l.level.items) ≤ length l.graph.vertices;
}

-- a level that has a vertex leaves fewer that are not found, or no further level
abbrev pub decreases-loop-alloc : goal.decreases-loop-alloc
decreases-loop-alloc l = unmarked l.found.items + length l.level.items
