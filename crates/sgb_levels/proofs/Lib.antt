-- The lemmas of sgb_levels, by subject.
-- what the program answers
pub mod LevelAnswers
-- what a call of the program leaves
pub mod LevelRuns
-- marks that vertices are given
pub mod Marking
-- searches by levels
pub mod Searching
