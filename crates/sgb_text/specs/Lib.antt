-- What contracts say of texts, whatever they name.
-- texts that are words of values; words one after another; where a text goes wrong
pub mod Languages
-- texts of numbers
pub mod Numbers
-- checksums that texts tell of themselves
pub mod Checksums
