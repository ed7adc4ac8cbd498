-- What is kept of a graph's lists.
use Rattle.std.specs.Prelude.{ℤ, List, ◌++◌, length, replicate}
use Rattle.sgb_graph.specs.Graphs.{GraphData}
use Rattle.sgb_arrays.specs.Runs.{AreRows}
use Rattle.sgb_arrays.specs.inner.Sizes.{AreListSizes}
use Rattle.sgb_arrays.specs.declared.packed_rows.Lengths.{Lengths}
use Rattle.sgb_arrays.specs.declared.packed.Lists.{Lists}
use Rattle.sgb_arrays.specs.declared.packed.Lists.TheVariants.{Whole, Shared}

-- the lengths that are kept so: the first ones are the same
abbrev pub lengths_kept : Lengths → List ℤ
lengths_kept l = replicate l.same l.len ++ l.others.items

-- it is what the graph has: all lists, or how long each is
abbrev pub HoldsLists : GraphData → Lists → Type 0
HoldsLists g (Whole rows) = AreRows g 0 (length g.vertices) rows.starts.items rows.tips.items (lengths_kept rows.lengths)
HoldsLists g (Shared sizes) = AreListSizes g sizes.items
