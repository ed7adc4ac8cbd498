-- The lemmas of sgb_expr, by subject.
-- a reader of numbers in a radix
pub mod Digits
-- readers of integers and of bits
pub mod NumberReaders
-- integers read one after another by a loop
pub mod IntegerLists
-- the names of forms tried one after another by a loop
pub mod NameOpenings
-- readers of argument lists, and of each generator's form
pub mod GeneratorReaders
-- readers of entries to a `]`
pub mod EntryReaders
-- the form of each name: its words, and its reader
pub mod Forms
-- expressions inside expressions: depths of at least the length are alike
pub mod Nesting
-- what takes memory in a text
pub mod TakenMemory
-- entries read one after another by a loop
pub mod EntryLists
-- what expressions of the code that hold entries are
pub mod CodeExpressions
-- which expressions of the code read standard input
pub mod StdinUses
-- whole texts read as expressions
pub mod WholeReading
-- a reader of what is asked of the random generator
pub mod FlipReading
-- texts and what they are, by evaluation
pub mod Examples
-- texts of each form, and what they say
pub mod ExamplesWords
