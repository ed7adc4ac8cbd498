-- A graph that is open, built or not.
use Rattle.std.specs.Prelude.{◌≡◌, ℕ, length}
use Rattle.sgb_file.specs.Saving.{text_of_graph}
use Rattle.sgb_graph.specs.Graphs.{GraphData}
use Rattle.sgb_graph.specs.Made.{graph_described}
use Rattle.sgb_gen.specs.Generators.{described}
use Rattle.sgb_arrays.specs.declared.open_graphs.OpenGraph.{OpenGraph}
use Rattle.sgb_arrays.specs.declared.open_graphs.OpenGraph.TheVariants.{Built, Listed}
use Rattle.sgb_arrays.specs.declared.operands.Operand.{Operand}
use Rattle.sgb_arrays.specs.declared.operands.Operand.TheVariants.{Lent, Made}
use Rattle.sgb_arrays.specs.declared.refusals.Wrong.{Wrong}
use Rattle.sgb_arrays.specs.declared.refusals.Wrong.TheVariants as wrong

-- the graph that is open: the one that is built, or the one of accepted parameters
abbrev pub graph_open : OpenGraph → GraphData
graph_open (Built g) = g
graph_open (Listed l) = graph_described (described l)

-- the graph that is open is not built: a call on it may take memory
abbrev pub IsListed : OpenGraph → Type 0
IsListed (Built g) = ⊥
IsListed (Listed l) = Unit {0}

-- the graph of an operand
abbrev pub graph_of_operand : Operand → GraphData
graph_of_operand (Lent g) = g.now
graph_of_operand (Made g) = g

-- why a graph's file is not put into an array: it has not as many places as the file has bytes; or out of memory, where it may
abbrev pub IsFileRefusal : GraphData → ℕ → (memory : Type 0) → Wrong → Type 0
IsFileRefusal g places memory wrong.Length = places ≡ length (text_of_graph g) → ⊥
IsFileRefusal g places memory wrong.NoRoom = memory
IsFileRefusal g places memory _ = ⊥
