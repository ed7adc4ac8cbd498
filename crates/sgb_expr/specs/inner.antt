-- What only the private contracts and the proofs of sgb_expr speak of.
-- lists of entries of the code
pub mod CodeEntries
-- reading what is asked of the random generator
pub mod FlipTexts
-- what a reader of the code returns
pub mod Gives
-- how large a text may be that is read
pub mod Measure
-- where reading may be out of memory
pub mod Memory
-- all names, and what each begins with
pub mod Names
-- what the steps of reading an operation speak of
pub mod Operations
-- reading an expression: its name, and then its form
pub mod Reading
-- reading numbers from the beginning of a text
pub mod Readings
-- what two graphs with integers after them are
pub mod TwoGraphs
