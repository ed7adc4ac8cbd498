-- The three generators: their graphs, and what is known of an accepted one without its graph [GB_BASIC].
use Rattle.std.specs.Prelude.{◌≡◌, ◌<◌, ◌⊎◌, ℕ, List, length, Result, Ok, Err, IfOk}
use Rattle.sgb_vec.specs.Bounds.{simplex_of}
use Rattle.sgb_vec.specs.Results.{and_then}
use Rattle.sgb_vec.specs.declared.panics.Panic.{Panic}
use Rattle.sgb_vec.specs.declared.panics.Panic.TheVariants.{NoRoom}
use Rattle.sgb_graph.specs.Descriptions.{Description}
use Rattle.sgb_graph.specs.Graphs.{GraphData}
use Rattle.sgb_graph.specs.Made.{graph_described}
use Rattle.sgb_gen.specs.Boards.{board, board_vector_graph}
use Rattle.sgb_gen.specs.Simplexes.{simplex, simplex_vector_graph}
use Rattle.sgb_gen.specs.Subsets.{subsets, subsets_vector_graph}
use Rattle.sgb_gen.specs.Sorts.{Sort, of_board, of_simplex, of_subsets}
use Rattle.sgb_gen.specs.VectorGraphs.{VectorGraph, described_by}
use Rattle.sgb_gen.specs.declared.params.Generator.{Generator}
use Rattle.sgb_gen.specs.declared.params.Generator.TheVariants as generator
use Rattle.sgb_gen.specs.declared.locals.Local.{Local}
use Rattle.sgb_gen.specs.declared.locals.Local.TheVariants as local

-- the graph of a generator with its parameters, or why it is refused
abbrev pub generator_value : Generator → Result Description Panic
generator_value (generator.Board p) = board p
generator_value (generator.Simplex p) = simplex p
generator_value (generator.Subsets p) = subsets p

-- the graph that is described, or why it is refused
abbrev pub made : Result Description Panic → Result GraphData Panic
made value = and_then value (λ d. Ok (graph_described d))

-- a generator is refused with this code by what needs no memory: a board for whatever it is, others for all but their counts
abbrev pub IsGeneratorRefused : Generator → Panic → Type 0
IsGeneratorRefused (generator.Board p) code = board p ≡ Err code
IsGeneratorRefused (generator.Simplex p) code = simplex_of p.n p.n0 p.n1 p.n2 p.n3 p.n4 ≡ Err code
IsGeneratorRefused (generator.Subsets p) code = simplex_of p.n p.n0 p.n1 p.n2 p.n3 p.n4 ≡ Err code

-- accepting a generator takes no memory: a board, and a sum of one bound
abbrev pub IsAcceptedAtOnce : Generator → Type 0
IsAcceptedAtOnce (generator.Board p) = Unit {0}
IsAcceptedAtOnce (generator.Simplex p) = IfOk (simplex_of p.n p.n0 p.n1 p.n2 p.n3 p.n4) (λ shape. length shape.sizes < 2)
IsAcceptedAtOnce (generator.Subsets p) = IfOk (simplex_of p.n p.n0 p.n1 p.n2 p.n3 p.n4) (λ shape. length shape.sizes < 2)

-- the graph of accepted parameters, as one of vectors
abbrev pub vector_graph_of : Local → VectorGraph
vector_graph_of (local.Board b) = board_vector_graph b
vector_graph_of (local.Simplex s) = simplex_vector_graph s
vector_graph_of (local.Subsets s) = subsets_vector_graph s

-- which generator accepted parameters are of
abbrev pub sort_of : Local → Sort
sort_of (local.Board b) = of_board
sort_of (local.Simplex s) = of_simplex
sort_of (local.Subsets s) = of_subsets

-- which generator parameters are of
abbrev pub sort_made : Generator → Sort
sort_made (generator.Board p) = of_board
sort_made (generator.Simplex p) = of_simplex
sort_made (generator.Subsets p) = of_subsets

-- the description of the graph of accepted parameters
abbrev pub described : Local → Description
described l = described_by (vector_graph_of l)

-- the vectors that are the vertices of the graph of accepted parameters
abbrev pub vectors_of : Local → List (List ℕ)
vectors_of l = (vector_graph_of l).vectors

-- the result is accepted parameters whose graph is the one described, or its refusal, or out of memory
abbrev pub IsLocalOf : Result Description Panic → Result Local Panic → Type 0
IsLocalOf value (Ok l) = value ≡ Ok (described l)
IsLocalOf value (Err p) = (value ≡ Err p) ⊎ (p ≡ NoRoom)
