-- The lemmas and examples of sgb_graph.
-- events added to a graph one after another
pub mod AddedEvents
-- one arc more
pub mod AddingArcs
-- one edge more
pub mod AddingEdges
-- chains of records, and what more records leave of them
pub mod Chains
-- parts that were checked, and the graph that they make up
pub mod CheckedParts
-- columns of values, one value more
pub mod ColumnValues
-- operands' ids in the id of a result
pub mod CompoundIds
-- one cycle of random numbers and the next
pub mod Cycles
-- the graph that a description makes is the only one
pub mod Described
-- single random numbers, and the first draw that is not thrown away
pub mod DrawLemmas
-- a way that ends meets no record twice
pub mod EndingWays
-- the lists of vertices, one event more
pub mod EventLemmas
-- worked examples of the definitions
pub mod Examples
-- the first cycle of random numbers
pub mod FirstCycle
-- vertices and records fit where their columns do
pub mod FitColumns
-- what fits a graph fits one with more vertices and records
pub mod Fitting
-- a graph with more records at the end
pub mod Growing
-- the hexadecimal digits of a number
pub mod HexadecimalDigits
-- texts and numbers that may stand in an id
pub mod IdLemmas
-- jumps over many random numbers
pub mod Jumps
-- the graph that kept vertices and records make up, as it changes
pub mod KeptGraphs
-- the parts of a file, as a graph keeps them
pub mod KeptParts
-- records as they are kept
pub mod KeptRecords
-- vertices as they are kept
pub mod KeptVertices
-- what stands on the list of a vertex
pub mod ListMembers
-- places of lists, and tests that each element passes
pub mod Lists
-- records that lead back, and lead to vertices
pub mod BackwardWays
-- walks along chains, and the marks that they set
pub mod MarkedWays
-- parts with some that can stand in no graph
pub mod Misfits
-- a new graph is one
pub mod NewGraphs
-- integers in the fields x, y, z of vertices
pub mod Numbers
-- the graph of a list of events, for examples
pub mod PlainGraphs
-- lists that are followed side by side
pub mod SideBySide
-- a generator at a draw, and what it hands out
pub mod Standing
-- tables, given by their columns
pub mod Tables
-- facts from tests
pub mod TestLemmas
-- arcs lead to vertices
pub mod Tips
-- each uniform draw is found
pub mod UniformDraws
-- how long a uniform draw may take
pub mod Waiting
-- walks along the lists of all vertices
pub mod WalkedLists
