-- What only the private contracts and the proofs of sgb_graph speak of.
-- the arcs from a record on
pub mod Chains
-- the columns of one utility field, by its kind
pub mod Columns
-- a uniform draw within so many draws
pub mod Draws
-- vertices and records that fit so many of them
pub mod Fitting
-- a generator from cycle to cycle
pub mod Flips
-- the id of a new graph, and fields that hold integers
pub mod Growth
-- jumps over many random numbers
pub mod Jumps
-- the graph that is kept
pub mod Kept
-- records as they are kept
pub mod KeptRecords
-- vertices as they are kept
pub mod KeptVertices
-- where chains end and lists lead, and walks that mark the records they pass
pub mod Walks
