-- What only the private contracts and the proofs of sgb_c speak of.
-- what is answered for causes of the libraries below
pub mod Causes
-- operations as values
pub mod Operations
-- a graph that a handle lends
pub mod Lending
