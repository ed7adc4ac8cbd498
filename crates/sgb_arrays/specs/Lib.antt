-- What the contracts of sgb_arrays speak of.
-- parts that stand one after another
pub mod Lists
-- the lists and the names of a run of vertices, as arrays
pub mod Runs
-- arrays of the same lengths
pub mod Copies
-- utility fields of the vertices
pub mod Fields
-- graphs that are open, built or not
pub mod OpenGraphs
-- the graph that arrays tell
pub mod Given
-- what no public contract needs
pub mod inner
