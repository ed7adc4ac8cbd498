-- What the contracts of sgb_levels speak of.
-- walks and distances
pub mod Distances
-- what the program writes
pub mod Lines
-- a call of the program
pub mod Program
-- what no public contract needs
pub mod inner
