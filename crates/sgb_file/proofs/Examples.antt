-- Worked examples of the definitions, each with the value that the published rules give.
pub mod Checksums
pub mod GraphFiles
pub mod Fields
pub mod Restoring
pub mod Refusals
pub mod Limits
pub mod Saving
pub mod SavedGraphs
pub mod Words
pub mod ArcRecords
pub mod WholeFiles
pub mod CellFile
pub mod Devices
pub mod PastSaving
