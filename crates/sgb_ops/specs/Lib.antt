-- What the contracts of sgb_ops speak of.
-- the least of some lengths
pub mod Lengths
-- parallel arcs and edges made one
pub mod Merged
-- the end of ids, and names made of two names
pub mod Compounds
-- complement
pub mod Complement
-- gunion
pub mod Gunion
-- intersection
pub mod Intersection
-- lines
pub mod Lines
-- product
pub mod Product
-- the entries of an induced graph, and the copies that they make
pub mod Entries
-- laws of the copies
pub mod Copies
-- induced
pub mod Induced
-- the board that bi_complete and wheel start from
pub mod Boards
-- complete bipartite graphs
pub mod BiComplete
-- wheels
pub mod Wheel
-- what no public contract needs
pub mod inner
