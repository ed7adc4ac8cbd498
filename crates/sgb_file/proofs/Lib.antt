-- The lemmas and examples of sgb_file.

-- the order of the bytes, and the checksum made byte by byte
pub mod ChecksumLemmas
-- first lines: what one says, and how one is read
pub mod FirstLines
-- what a file's records say fits its kinds, and can be saved
pub mod ReadParts
-- a field is read exactly of a text that says its value
pub mod FieldsAndTexts
-- a record is read exactly of the texts of its fields
pub mod RecordsAndTexts
-- the opening, the records and the closing line of a file are read exactly where they stand
pub mod FilesAndTexts
-- a text is read as a graph exactly where it is a file of it, and the code of each other text
pub mod RefusedTexts
-- the lines that are left while a file is read
pub mod LinesLeftLemmas
-- the vertices' and the arcs' records, read one by one
pub mod Sections
-- the opening and the end of a file, in the words of the code
pub mod Endings
-- the lines that are read are those that were written
pub mod LineLemmas
-- the text of pieces that are laid out: where its breaks stand
pub mod LaidOutText
-- the texts of fields, with breaks and without
pub mod FieldReading
-- numbers, read digit by digit
pub mod NumberReading
-- the text that is left of a file's lines
pub mod LeftTexts
-- a record, read field by field in the words of the code
pub mod FoundSteps
-- strings, read part by part
pub mod StringReading
-- the lines of a record are a record of the graph's
pub mod WrittenRecords
-- the text of a graph is a file of it
pub mod WrittenFiles
-- what can be saved, and that its fields fit
pub mod SavedGraphs
-- the lines of a piece that is broken
pub mod BrokenLines
-- lines written one after another, with their checksum
pub mod LaidLines
-- bytes put on lines, and pieces laid out
pub mod PlacedPieces
-- fields that the bytes before the first comma of a line say, with the value of a checksum after them
pub mod CountedFields
-- arc records and vertices that are read of one line
pub mod LineRecords
-- fields laid out one by one
pub mod FieldTexts
-- records written one by one
pub mod RecordLines
-- the text of a graph in three parts
pub mod WholeText
-- a text that is looked through sixteen elements at a time
pub mod FirstPlaces
-- worked examples
pub mod Examples
-- a text written so far, and what is left of it
pub mod SoFar
-- what a sink has of a text where a write failed
pub mod WrittenPrefixes
-- short lines that are put together
pub mod ShortLines
