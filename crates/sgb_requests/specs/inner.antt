-- What only the private contracts and the proofs of sgb_requests speak of.
-- what the steps of reading a command line give
pub mod CommandLine
-- how values of the words are read, or refused
pub mod Requests
