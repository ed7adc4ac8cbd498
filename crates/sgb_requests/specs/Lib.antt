-- What the contracts of sgb_requests speak of.
-- the command line by clap's meaning, and what its words ask for
pub mod CommandLine
-- what each fault comes from, its line and its exit status
pub mod Faults
-- the plain forms of words, and what each is read as
pub mod PlainWords
-- what reading an expression, or a flip, returns
pub mod Reading
-- the requests that the words make, and how others are refused
pub mod Requests
-- what private contracts and proofs alone speak of
pub mod inner
