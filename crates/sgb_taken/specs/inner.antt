-- What only the contracts of sgb_taken, private ones of sgb_ops, and the proofs of both speak of.

-- the ends of an event
pub mod Ends
-- the arcs taken of a list, met one by one
pub mod TakenArcs
