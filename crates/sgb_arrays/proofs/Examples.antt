-- Worked examples of the definitions.
-- the rows and the names of three vertices
pub mod Rows
-- runs of them
mod Runs
-- arrays that tell a graph
mod Given
-- what may be wrong with these, one thing at a time
mod Faults
-- arrays that a run fits into, and why they are not filled
mod Refusals
-- a field of integers
mod Fields
