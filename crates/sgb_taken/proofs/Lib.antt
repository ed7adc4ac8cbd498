-- Lemmas that the proofs of sgb_taken share.

-- the arcs taken of a list
pub mod Taking
-- where they lead
pub mod TakenTips
