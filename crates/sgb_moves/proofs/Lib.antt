-- Lemmas that the proofs of sgb_moves share.

-- numbers that are no sum of two or three squares
pub mod SumsOfSquares
-- a list's first element written apart from the others
pub mod Parts
-- the vectors of a norm: the first and the next
pub mod Completions
-- that they are all vectors of that norm within bounds
pub mod AllVectors
-- the next vector of a norm, as it is written
pub mod NextVectors
-- the next signing of a vector's entries
pub mod NextSignings
-- signings where the first entry other than 0 stays
pub mod FirstEntries
-- a walk over displacements, one after another
pub mod DisplacementWalk
-- the vector before another one of the same norm
pub mod EarlierVectors
-- the signing before another one
pub mod EarlierSignings
-- the displacements before one of them
pub mod DisplacementsBefore
-- the bits of `wrap`
pub mod WrapBits
-- a place, coordinate by coordinate
pub mod Places
-- a place, by the coordinates that a displacement moves
pub mod MovedCoordinates
-- how far the coordinates stay that a displacement moves
pub mod PartReaches
-- a rider stops
pub mod Riders
-- moves turned back
pub mod TurnedMoves
-- whether displacements lead onward, by the coordinates that they move
pub mod OnwardParts
-- so many steps of 32 bits together, in 64 bits
pub mod SignedSteps
-- what is left of a number by the size of a side
pub mod SideRests
-- the coordinates of a place, below the sizes of the sides
pub mod SideEntries
-- bounds of entries, side by side
pub mod BoundsSoFar
-- moves of length 1 that lead to places
pub mod NearPlaces
