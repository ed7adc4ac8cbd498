-- What only the contracts of sgb_moves, private ones of sgb_gen, and the proofs of both speak of.

-- the displacements within a board's bounds
pub mod EntryBounds
-- the displacements after one of them
pub mod LaterDisplacements
-- where a piece moves at one length
pub mod Moves
-- moved coordinates that stay on the board, and vectors that differ in no others
pub mod MovedCoordinates
-- ranges of the starts of edges
pub mod Starts
