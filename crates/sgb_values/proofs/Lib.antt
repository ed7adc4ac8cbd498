-- The lemmas of sgb_values, by subject.
-- values of expressions
pub mod Values
-- what values depend on of standard input
pub mod StdinValues
-- refusals are never out of memory
pub mod Refusals
-- refusals that come before memory is taken
pub mod FirstRefusals
-- values on small graphs
pub mod Examples
