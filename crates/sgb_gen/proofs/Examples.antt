-- Worked examples of the generators, evaluated.

-- bits of wrap, common sizes, pairs of places, refusals
pub mod Bits
-- how they show a graph
pub mod Listings
-- boards
pub mod Boards
-- simplexes
pub mod Simplexes
-- subsets
pub mod Subsets
-- the graph that a file holds
pub mod Graphs
-- lists of one vertex
pub mod LocalLists
-- those of simplexes, by pairs of places
pub mod LocalSimplexes
-- those of subsets, by a walk
pub mod LocalSubsets
-- those of boards, by displacements
pub mod LocalBoards
-- what the laws say of single cases
pub mod Laws
-- arcs by one displacement
pub mod Spans
-- short names
pub mod Shorthands
-- what is accepted and refused, by which parameter
pub mod Refusals
-- fields, ends and lists of vectors, and sorts
pub mod Families
