-- The lemmas of sgb_requests, by subject.
-- where answers begin
pub mod Beginnings
-- words that clap takes do not enter its own command `help`
pub mod ClapHelp
-- words that clap takes give each required argument a value
pub mod ClapRequired
-- values of clap's: options, pairs and the matches of a command
pub mod ClapValues
-- the texts of counts
pub mod Counts
-- the commands that the words enter
pub mod EnteredCommands
-- the walk over words that are no options
pub mod PlainWalks
-- the commands that plain words enter, and what they ask
pub mod PlainCommands
-- what words are read as, where it is known what they ask
pub mod PlainReadings
-- texts that do not begin with a hyphen
pub mod PlainTexts
-- the faults of texts that are not read
pub mod RefusedTexts
-- the plain forms of words
pub mod PlainWords
-- words and what they ask, by evaluation
mod Examples
