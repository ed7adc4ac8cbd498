-- Worked examples of the definitions, evaluated by the check.
pub mod Operands
pub mod Pieces
pub mod Ends
pub mod Compounds
pub mod Pairs
pub mod Lines
pub mod Product
pub mod Induced
pub mod Copies
pub mod Queen
pub mod Parallel
pub mod Petersen
