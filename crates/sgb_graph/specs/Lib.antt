-- What the contracts of sgb_graph speak of.
-- the values of utility fields, each field by its kind
pub mod Columns
-- what a construction says of its graph
pub mod Descriptions
-- the random numbers, by one formula
pub mod Draws
-- the arcs that a list of events makes
pub mod Events
-- a generator of random numbers
pub mod Flips
-- graphs as data, and the lists of their vertices
pub mod Graphs
-- the vertices of a graph and their names
pub mod Vertices
-- how a graph grows, step by step
pub mod Growth
-- the letters of kinds
pub mod Kinds
-- the texts that ids are made of
pub mod IdTexts
-- the ids of graphs
pub mod Ids
-- the graph that a list of events makes, as a whole
pub mod Made
-- the parts that a file brings
pub mod Parts
-- when parts make up a graph
pub mod Sound
-- what only private contracts and proofs speak of
pub mod inner
