-- Lemmas that the proofs of sgb_gen share, and worked examples.

-- the squares of a displacement's entries
pub mod Norms
-- a displacement has an entry for each dimension
pub mod DisplacementLengths
pub mod EdgesInTurn
-- vertices from which no side is near
mod InsideVertices
-- their lists, by leaps
mod InsideRuns
-- where they lead among the vectors: equal strides on
mod StrideTips
-- the arcs of a span, one after another
pub mod SpanArcs
-- a board's arcs that are handed out one by one
pub mod GivenArcs
-- how many lengths a piece moves at most
pub mod MostLengths
-- how many moves a board of few displacements has at most
pub mod MostMoves
-- moves that lead by equal strides
mod StridedMoves
-- where a move leads
pub mod Destinations
-- how far a piece moves
pub mod Reaches
-- lists by displacements where no move is longer than 1
mod Leaps
-- displacements above the bounds lead nowhere
pub mod BoundedMoves
-- what is known of an accepted board
pub mod AcceptedBoards
-- the texts of ids, parameter by parameter
pub mod WrittenIds
-- the vertices of vectors
pub mod Vertices
-- where a vector stands among rising ones
pub mod RisingVectors
-- rising lists with the same members are the same
pub mod OrderedLists
-- a walk over a family, from the first vector on
pub mod FamilyWalks
-- the coordinates in the fields of vertices
pub mod Coordinates
-- the graph of a family, made step by step
pub mod FamilyGraphs
-- the events of a board, move by move
pub mod BoardEvents
-- a unit that goes to a higher place
pub mod ShiftLemmas
-- where a vector stands once a unit has gone
pub mod ShiftedEntries
-- the events of a simplex, move by move
pub mod SimplexEvents
-- the events of subsets, move by move
pub mod SubsetsEvents
-- what multisets have in common, counted in chunks
pub mod CommonSizes
-- arcs kept with their vectors
pub mod LinkRows
-- such arcs in the other order
-- the list of a vector, from the moves that touch it
pub mod MoveLists
-- the three generators' graphs as graphs of vectors
pub mod ListedGraphs
-- their vertices: names, lists, and the vectors after one
pub mod VectorVertices
-- their lists, by the arcs of the vectors
pub mod LocalChains
-- moves by one displacement, in order
pub mod MovesInOrder
-- those that touch a vector
pub mod TouchingMoves
-- where they start, sorted
pub mod SortedStarts
-- the starts of the edges that touch a vector, by the range that they are within
pub mod StartRanges
-- moves by a displacement that leads to later vectors
pub mod OnwardMoves
-- where those start that touch a vector, with no sorting: where those behind it fall but for one rise, and where they fall
mod AroundStarts
-- where they go around a side once at most
mod FallingPlaces
pub mod OnwardStarts
-- moves from a vector, length by length
pub mod BoardWalks
-- moves that never come home, at one look
pub mod StraightMoves
-- the lengths of the moves that start at a vector itself, within a range
mod OwnLengths
-- moves that no side stops
mod AroundMoves
-- the list of a vertex, run by run
pub mod RunsOfLists
-- arcs that are handed out one by one
pub mod ArcsInTurn
-- lists of arcs that were put into links, or refused
pub mod EndedLists
-- the list of a vector of a board
pub mod ListsOfBoards
-- the list of a vector of a simplex
pub mod SimplexLists
-- its arcs, pair of places by pair
pub mod PairWalks
-- the list of a vector of subsets
pub mod SubsetsLists
-- the vectors of subsets by their first entries, and the arcs to them
pub mod Descents
-- the arcs to vectors that begin alike, and the vectors down to one and from it
pub mod DescentArcs
-- entries with which no size in common is wanted, and a vector made entry by entry
pub mod DescentSteps
-- the arcs where a single 1 is left to be placed
pub mod LastEntries
-- sizes below the least wanted one
pub mod WantedSizes
-- worked examples, evaluated
pub mod Examples
-- from how many places steps of a displacement lead to a place of the board
pub mod BoardCountsStarts
-- what is known of one length holds of the farther ones
pub mod BoardCountsFarther
-- when a rider is home
pub mod BoardCountsHome
-- the moves by one displacement, counted length by length
pub mod BoardCountsLengths
-- the moves and the arcs of a board, counted
pub mod BoardCountsBoards
-- where at most one side of a board stops a displacement
pub mod BoardCountsSides
-- the moves of all lengths together, by a displacement that at most one side stops
pub mod BoardCountsTotals
-- when a step around a side is back
pub mod TimesAround
pub mod WalkedArcs
-- bounds with one less at a place
pub mod LoweredBounds
-- the moves of a simplex counted by pairs of places
pub mod SimplexCounts
-- pairs of places with equal bounds
pub mod EqualBounds
-- the moves of subsets counted by the descent
pub mod SubsetsCounts
-- pairs of subsets counted by a table
pub mod SubsetsPairs
-- their table, and its cells
pub mod SubsetsPairTables
-- the moves of subsets as pairs of vectors
pub mod SubsetsMovePairs
-- sums over the numbers below one
pub mod AddedSums
-- pairs of subsets by what they leave of the bounds
pub mod SubsetsLeftOver
-- the place of a vector of a sum, by counts that are kept
pub mod KeptCounts
-- vectors in order, one found from that before or after it
pub mod SteppedVectors
