-- Operands that need not be built [GB_BASIC].
use Rattle.std.specs.Prelude.{true}
use Rattle.sgb_graph.specs.Graphs.{GraphData}
use Rattle.sgb_graph.specs.Made.{graph_described}
use Rattle.sgb_gen.specs.Generators.{described}
use Rattle.sgb_expr.specs.Expression.{OnGraph, Complement as OfComplement, Lines, OnGraphs, Gunion, Intersection as OfIntersection, Product as OfProduct}
use Rattle.sgb_values.specs.declared.evaluation.list_operations.OnList.{OnList}
use Rattle.sgb_values.specs.declared.evaluation.list_operations.OnList.TheVariants.{Complement, DirectedLines}
use Rattle.sgb_values.specs.declared.evaluation.list_operations.OnLists.{OnLists}
use Rattle.sgb_values.specs.declared.evaluation.list_operations.OnLists.TheVariants.{Union, Intersection, Product}
use Rattle.sgb_values.specs.declared.evaluation.list_operations.Operand.{Operand}
use Rattle.sgb_values.specs.declared.evaluation.list_operations.Operand.TheVariants.{Built, Listed}

-- an operation that reads the lists of its operand
abbrev pub on_list : OnList → OnGraph
on_list (Complement copy self_loops directed) = OfComplement copy self_loops directed
on_list DirectedLines = Lines true

-- one that reads those of two
abbrev pub on_lists : OnLists → OnGraphs
on_lists (Union multi directed) = Gunion multi directed
on_lists (Intersection multi directed) = OfIntersection multi directed
on_lists (Product kind directed) = OfProduct kind directed

-- the graph of an operand
abbrev pub graph_held : Operand → GraphData
graph_held (Built g) = g
graph_held (Listed l) = graph_described (described l)
