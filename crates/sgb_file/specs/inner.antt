-- What only the private contracts and the proofs of sgb_file speak of.
-- what a first line says, and what stands after it
pub mod Heads
-- what the text of a field says
pub mod FieldValues
-- records that are read of one line
pub mod LineRecords
-- how an adapted reader or writer is stored
pub mod Devices
-- fields as they are read: how far each one's text goes
pub mod ReadFields
-- records as they are read
pub mod ReadRecords
-- files as they are read
pub mod ReadFiles
-- what a reader found, or how it was refused
pub mod Found
-- bytes that are looked at together
pub mod Lanes
-- lines that are laid out, and what the sink has of them
pub mod Layouts
-- the lines of a graph's text, step by step
pub mod SavedLines
-- what is left of a file's lines while they are read
pub mod LinesLeft
-- parts with the records that a text begins with
pub mod Reading
-- short lines that are put together, with their checksum
pub mod ShortLines
