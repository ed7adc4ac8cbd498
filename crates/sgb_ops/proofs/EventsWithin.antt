-- Events whose ends are vertices of a graph.
use Rattle.sgb_vec.proofs.Common.{◌<◌, ◌≤◌, ◌+◌, ℕ, Bool, true, false, List, map, length, arith, All, flat_map, range_with_len, All-nil, All-map}
use Rattle.sgb_graph.specs.Graphs.{GraphData, chain_of}
use Rattle.sgb_vec.proofs.Lists.{All-flat_map, range-within}
use Rattle.sgb_graph.specs.Events.{Event, HasEndsBelow}
use Rattle.sgb_graph.specs.Growth.{IsKept}
use Rattle.sgb_graph.specs.declared.fields.Link.{Link}
use Rattle.sgb_graph.proofs.Growing.{parts_of}
use Rattle.sgb_graph.proofs.Tips.{tips_below}
use Rattle.sgb_taken.proofs.TakenTips.{TipBelow}
use Rattle.sgb_ops.specs.inner.Ends.{AllWithin, event_of}
use Rattle.sgb_ops.specs.Merged.{merged_unless}
use Rattle.sgb_ops.proofs.Merging.{merged_keeps}

-- arcs that lead to vertices below n lead below all that is not less
pub tips_below_more : (n m : ℕ) (links : List Link) → n ≤ m → All (TipBelow n) links → All (TipBelow m) links
tips_below_more n m links most all = λ k d within. omega (arith, all k d within, most)

-- merged events keep their ends
pub merged_unless_within : (n : ℕ) (multi directed : Bool) (events : List Event) → AllWithin n events → AllWithin n (merged_unless multi directed events)
merged_unless_within n true directed events all = all
merged_unless_within n false directed events all = merged_keeps (HasEndsBelow n) (λ e far h. h) directed events all

-- the arcs of a graph lead to its vertices
pub chain_tips : (g : GraphData) (v : ℕ) → IsKept g → v < length g.vertices → All (TipBelow (length g.vertices)) (chain_of g v)
chain_tips g v kept below = grind (arith, All-nil, tips_below, parts_of)

-- the events of arcs on the list of a vertex
pub events_of_within : (n v : ℕ) (links : List Link) → v < n → All (TipBelow n) links → AllWithin n (map (event_of v) links)
events_of_within n v links below all = All-map (HasEndsBelow n) (event_of v) links (λ k d h. (below, all k d h))

-- the events of several vertices
pub events_after_within : (n : ℕ) (f : ℕ → List Event) (v count : ℕ) → ((u : ℕ) → v ≤ u → u < v + count → AllWithin n (f u)) → AllWithin n (flat_map f (range_with_len v count))
events_after_within n f v count each = All-flat_map (HasEndsBelow n) f (range_with_len v count) (λ k d h. let p = range-within v count k d h in each _ p.0 p.1)
