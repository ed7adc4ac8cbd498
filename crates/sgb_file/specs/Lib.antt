-- What the contracts of sgb_file speak of.
-- what sources give and sinks take
pub mod Devices
-- the lines of a file
pub mod FileLines
-- the checksum of a file
pub mod Checksum
-- the fields of a record: their texts and values
pub mod Fields
-- the text that is written for a graph
pub mod Saving
-- when a text is a file of a graph
pub mod Files
-- when a text is a file of no graph, and what each text is read as
pub mod Refused
-- the graphs that can be saved
pub mod Saved
-- what only private contracts and proofs speak of
pub mod inner
