-- What the contracts of sgb_values speak of.
-- the graphs of expressions
pub mod Values
-- refusals that come before memory is taken
pub mod FirstRefusals
-- what no public contract needs
pub mod inner
