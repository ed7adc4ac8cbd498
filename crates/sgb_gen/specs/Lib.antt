-- What the contracts of sgb_gen speak of.

-- the graph of a family of vectors
pub mod VectorGraphs
-- boards: parameters, ids, graphs
pub mod Boards
-- simplexes: parameters, ids, graphs
pub mod Simplexes
-- subsets: parameters, ids, graphs
pub mod Subsets
-- which generator a graph is from
pub mod Sorts
-- the three generators by one name
pub mod Generators
-- the list of arcs of one vertex
pub mod LocalLists
-- arcs that are handed out one by one
pub mod ArcSinks
-- arcs by one displacement, of some lengths in turn
pub mod Spans
-- the short names
pub mod Shorthands
-- what only private contracts and proofs speak of
pub mod inner
