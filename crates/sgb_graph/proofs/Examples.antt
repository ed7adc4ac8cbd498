-- Worked examples of the definitions, each with the value that the published programs give.
pub mod Added
pub mod Checked
pub mod Draws
pub mod Ids
pub mod Made
pub mod Relations
pub mod Rings
pub mod Texts
