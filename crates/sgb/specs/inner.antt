-- What only the private contracts and the proofs of sgb speak of.
-- generators whose answers take no memory
pub mod Certain
-- the numbers that a flip draws
pub mod FlipAnswers
-- names of vectors that are kept
pub mod KeptNames
-- blocks of a generator's graph
pub mod Locals
-- the vertex of a name
pub mod Named
-- texts of small numbers
pub mod Numerals
-- pages of output, and what was put of them
pub mod Pages
-- what is left of vectors
pub mod Remaining
-- the entries of a name, the line of a number, and how long lines are
pub mod Texts
