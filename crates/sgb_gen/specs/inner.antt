-- What only the private contracts and the proofs of sgb_gen speak of.

-- laws, as their clauses say them
pub mod Laws
-- what accepted boards keep
pub mod Boards
-- arcs that are taken in turn
pub mod ArcSinks
-- the list of a vector, from the moves that touch it
pub mod LocalArcs
-- the list of a vector of a board, by displacements
pub mod LocalBoards
-- the starts of the edges that touch a vector, in ranges
pub mod Starts
-- the list of a vector of a simplex, by pairs of places
pub mod LocalSimplexes
-- the list of a vector of subsets, by a walk
pub mod LocalSubsets
-- the list of a vector of subsets, by a descent
pub mod Descents
-- what accepted simplexes and subsets keep, and the shifts of one unit
pub mod Simplexes
-- what the parameters of accepted subsets keep
pub mod Subsets
-- a list that is had run by run
pub mod StraightLists
-- lengths one after another
pub mod Spans
-- how far a displacement leads on among the vectors
pub mod Strides
-- moves that lead by equal strides
pub mod StridedMoves
-- counts by which the vectors of a sum are found
pub mod KeptCounts
-- from how many places a piece moves by a displacement, at one length
pub mod BoardCounts
-- from how many vectors of a simplex a unit goes from one place to another
pub mod SimplexCounts
-- how many moves subsets have, vector by vector
pub mod SubsetsCounts
-- how many pairs of subsets have a wanted size in common, by a table
pub mod SubsetsPairs
-- the same by the places where the one vector has more
-- the coordinates of vectors, put into a graph
pub mod VectorGraphs
-- what the lists of a graph have in common
pub mod LocalLists
