-- What the contracts of sgb_vec speak of.
-- the bounds of a simplex
pub mod Bounds
-- the vectors of a box
pub mod Boxes
-- the panic codes
pub mod Codes
-- the digits that a text begins with
pub mod Digits
-- the order of vectors, and which vectors the families have
pub mod Lexicographic
-- the limits of vectors, names and graphs
pub mod Limits
-- the vector that a name stands for
pub mod NamedVectors
-- the texts of vertices
pub mod Names
-- first, last, next and previous in a list of vectors
pub mod Order
-- the vectors from one to another
pub mod Ranges
-- refusals one after another
pub mod Results
-- the sizes of a board
pub mod Sizes
-- the vectors of a bounded sum
pub mod Sums
-- how many entries a walk visits
pub mod Visits
-- what only private contracts and proofs speak of
pub mod inner
