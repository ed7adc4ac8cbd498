-- What the contracts of sgb_expr speak of.
-- expressions that name graphs, and which of them a value of the code is
pub mod Expression
-- the texts of integers and of bits
pub mod Numbers
-- the name of each form
pub mod Names
-- the generators' forms, and the graph that each names
pub mod Forms
-- the forms of all names
pub mod Operations
-- which texts are expressions, too large, or read as what
pub mod Expressions
-- what entries of the code are
pub mod CodeEntries
-- lists of entries of the code, as entries
pub mod Listed
-- which expressions read standard input
pub mod StdinUses
-- the texts that ask for numbers of the random generator
pub mod FlipTexts
-- what private contracts and proofs alone speak of
pub mod inner
