-- What the contracts of sgb_c speak of.
-- the answers of calls
pub mod Answers
-- what a handle owns
pub mod Owns
-- what a handle holds, and what a call on it answers
pub mod Handles
-- what a call answers that makes a graph
pub mod Made
-- what no public contract needs
pub mod inner
