-- What only the private contracts and the proofs of sgb_values speak of.
-- what is left of standard input
pub mod Inputs
-- operands that need not be built
pub mod Operands
-- functions that give the value of `stdin`
pub mod StdinValues
