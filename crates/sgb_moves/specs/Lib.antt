-- What the contracts of sgb_moves speak of.

-- the limit of pieces
pub mod Limits
-- a move between two vectors
pub mod VectorMoves
-- the displacements of a piece
pub mod Displacements
-- the moves of a piece on a board
pub mod Moves
-- displacements by the coordinates that they move
pub mod MovedCoordinates
-- what only the contracts of sgb_moves and sgb_gen and their proofs speak of
pub mod inner
