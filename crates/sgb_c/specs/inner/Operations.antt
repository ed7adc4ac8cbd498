-- Operations as values, and how what they make comes into a handle.
use Rattle.std.specs.Prelude.{◌≡◌, ◌⊎◌, ℕ, Option, Some, Result, Ok, Err}
use Rattle.sgb_vec.specs.declared.panics.Panic.{Panic}
use Rattle.sgb_vec.specs.declared.panics.Panic.TheVariants.{NoRoom}
use Rattle.sgb_graph.specs.Graphs.{GraphData}
use Rattle.sgb_graph.specs.Descriptions.{Description}
use Rattle.sgb_ops.specs.Complement.{complement_of}
use Rattle.sgb_ops.specs.Gunion.{gunion_of}
use Rattle.sgb_ops.specs.Intersection.{intersection_of}
use Rattle.sgb_ops.specs.Lines.{line_graph_of}
use Rattle.sgb_ops.specs.Product.{product_graph_of}
use Rattle.sgb_arrays.specs.OpenGraphs.{IsListed, graph_open}
use Rattle.sgb_c.specs.Answers.{number_of}
use Rattle.sgb_c.specs.declared.answers.Answer.TheVariants as answer
use Rattle.sgb_c.specs.declared.held.Held.{Held}
use Rattle.sgb_c.specs.declared.operated.OnGraph.{OnGraph}
use Rattle.sgb_c.specs.declared.operated.OnGraph.TheVariants as one
use Rattle.sgb_c.specs.declared.operated.OnGraphs.{OnGraphs}
use Rattle.sgb_c.specs.declared.operated.OnGraphs.TheVariants as two

-- what the definition of an operation on a graph says of it
abbrev pub of_graph : OnGraph → GraphData → Result Description Panic
of_graph (one.Complement copy self_loops directed) = λ g. complement_of g copy self_loops directed
of_graph (one.Lines directed) = λ g. line_graph_of g directed

-- on two
abbrev pub of_graphs : OnGraphs → GraphData → GraphData → Result Description Panic
of_graphs (two.Gunion multi directed) = λ g h. gunion_of g h multi directed
of_graphs (two.Intersection multi directed) = λ g h. intersection_of g h multi directed
of_graphs (two.Product kind directed) = λ g h. product_graph_of g h kind directed

-- a handle holds this graph, built
abbrev pub HoldsBuilt : Option Held → GraphData → Type 0
HoldsBuilt new g = (h : Held) × (new ≡ Some h) × (graph_open h.graph ≡ g) × (IsListed h.graph → ⊥)

-- what is made, or is not, comes into a handle with this number: it is held; or memory ran out, or it was not made, and the
-- handle is as it was
abbrev pub IsPut : Result GraphData Panic → (old new : Option Held) → ℕ → Type 0
IsPut (Ok g) old new number =
    ((number ≡ number_of answer.Done) × HoldsBuilt new g) ⊎ ((number ≡ number_of (answer.Panic NoRoom)) × (new ≡ old))
IsPut (Err p) old new number = (number ≡ number_of (answer.Panic p)) × (new ≡ old)
