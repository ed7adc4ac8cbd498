-- Readers of languages, and the lemmas of them.
-- what reading from the beginning of a text returns
pub mod Readings
-- readers of languages, one after another, and one or the other
pub mod Readers
-- readers of fixed texts, and of one among several words
pub mod Words
-- how much readers leave of a text
pub mod Lengths
-- whole texts read as words, and where others go wrong
pub mod WholeWords
-- one byte or other words; readers that are as many as texts are long
pub mod Limits
-- what is found at the beginning of a text, where something is
pub mod Findings
-- readers that find the words of a language or nothing
pub mod Finders
-- small languages, worked out
pub mod Examples
