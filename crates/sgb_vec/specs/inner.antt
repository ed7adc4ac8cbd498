-- What only the private contracts and the proofs of sgb_vec speak of.
-- the length of the vectors of a box
pub mod BoxWidth
-- how a text keeps its bytes
pub mod KeptTexts
-- what an iterator over vectors has left
pub mod Ranges
-- the vectors of the families rise
pub mod Rising
-- sizes that are too great
pub mod Sizes
-- how many vectors of a bounded sum have a smaller first entry
pub mod SumPlaces
-- rows of counts of a bounded sum
pub mod SumRows
-- the length of the vectors of a bounded sum
pub mod SumWidth
