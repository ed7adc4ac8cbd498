-- What only the private contracts and the proofs of sgb_arrays speak of.
-- values put from a place on
pub mod Puts
-- what is left of a walk through all vertices
pub mod PartsLeft
-- names of vectors by their places
pub mod VectorNames
-- kinds of fields
pub mod Kinds
-- how long some lists are
pub mod Sizes
-- arrays cut down to a run
pub mod Cuts
-- what is kept of the lists of a graph
pub mod Packed
-- arrays that tell a graph, part by part
pub mod Given
-- a field of one vertex
pub mod Fields
-- the parts of a graph that is copied
pub mod CopiedParts
-- arcs that are counted
pub mod CountedArcs
-- arcs to vectors, put into rows
pub mod PlacedArcs
