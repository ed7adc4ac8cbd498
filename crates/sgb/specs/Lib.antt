-- What the contracts of sgb speak of.
-- what is answered whatever memory there is
pub mod Certain
-- random numbers
pub mod FlipAnswers
-- what is read of standard input
pub mod Inputs
-- the answers of requests
pub mod Outcomes
-- calls of the program
pub mod Program
-- what a run leaves
pub mod Runs
-- names and listings of graphs
pub mod Texts
-- listings from a generator's vectors
pub mod Locals
-- what writing a text leaves, and how an answer ends
pub mod Writing
-- what no public contract needs
pub mod inner
