-- When the events of an induced graph may be merged part by part: inside each graph, and from each copy.
use Rattle.std.specs.Prelude.{◌≡◌, ℕ, ◌==◌, Bool, false, List}
use Rattle.std.specs.List.{list_any, enumerate_from}
use Rattle.sgb_graph.specs.Graphs.{GraphData}
use Rattle.sgb_ops.specs.declared.induced_graphs.entries.Entry.{Entry}
use Rattle.sgb_ops.specs.declared.induced_graphs.entries.Entry.TheVariants as entry
use Rattle.sgb_ops.specs.Entries.{merged_count}
use Rattle.sgb_taken.specs.Taken.{taken}

-- vertex v, whose entry is the one given, has a graph in its place, and a loop among the arcs taken of it
abbrev pub has_loop_inside : GraphData → Bool → ℕ → Entry → Bool
has_loop_inside g directed v (entry.Copies k) = false
has_loop_inside g directed v (entry.Graph inner) = list_any (λ l. l.tip == v) (taken directed g v)
has_loop_inside g directed v (entry.Merged k) = false

-- some vertex has both
abbrev pub has_loops_inside : GraphData → List Entry → Bool → Bool
has_loops_inside g entries directed = list_any (λ p. has_loop_inside g directed p.0 p.1) (enumerate_from 0 entries)

-- no vertices are merged, and none has both
pub record AreInParts (g : GraphData) (entries : List Entry) (directed : Bool) : Type 0 where
  pub own : merged_count entries ≡ 0
  pub loops : has_loops_inside g entries directed ≡ false
