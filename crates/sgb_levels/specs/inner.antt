-- What only the private contracts and the proofs of sgb_levels speak of.
-- the line of one vertex
pub mod Lines
-- the marks of a search
pub mod Marks
-- searches, level by level
pub mod Searches
