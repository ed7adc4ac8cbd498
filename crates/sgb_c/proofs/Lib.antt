-- The lemmas of sgb_c, by subject.
-- the graph that a text names
pub mod Named
-- the machine value of a handle
pub mod LooseValues
-- the types of a box that is taken apart and made again
pub mod BoxTypes
-- what calls on a graph answer
pub mod Answered
-- the machine value of the handle of a list of entries
pub mod LooseListValues
-- the types of a box of entries that is taken apart and made again
pub mod ListBoxTypes
-- what calls answer that make a graph
pub mod MadeGraphs
