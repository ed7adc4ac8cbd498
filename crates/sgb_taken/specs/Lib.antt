-- What the contracts of sgb_taken speak of.

-- the arcs taken of a vertex, each edge once
pub mod Taken
-- what only the contracts of sgb_taken and sgb_ops and their proofs speak of
pub mod inner
