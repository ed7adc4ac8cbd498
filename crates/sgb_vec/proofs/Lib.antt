-- The lemmas and examples of sgb_vec, by subject.
-- sizes and parameters of a board
pub mod BoardSizes
-- the vector at a place of a box, as digits of the place
pub mod BoxDigits
-- the first, the last and the next vector of a box
pub mod BoxOrder
-- where a vector stands in a box
pub mod BoxPlaces
-- the step back in a box
pub mod BoxPredecessors
-- the place of a vector, entry by entry
pub mod BoxRanks
-- the step on in a box
pub mod BoxSuccessors
-- the names of std that most proofs cite
pub mod Common
-- sums of products over windows
pub mod Convolutions
-- worked examples of the definitions
pub mod Examples
-- worked examples of relations, and of codes and bytes
pub mod ExamplesRelations
-- the vectors of the families rise, and are of one length
pub mod FamilyLaws
-- members of the families have names
pub mod FamilyVectors
-- the decimal of a number of few digits
pub mod FewDigits
-- counts above the most vertices, told from the rows of counts
pub mod GreatCounts
-- sequences that rise and then fall, and their windows
pub mod Hills
-- plain lists, and walks over them
pub mod Lists
-- a first part of a word of bytes that is moved
pub mod MovedWords
-- the name of a vector read back
pub mod NameReading
-- numbers read back from their decimals
pub mod NamedNumbers
-- the number that digits write
pub mod Numerals
-- the product of sizes
pub mod Products
-- texts put by their ends
pub mod PutEnds
-- the vectors from one to another, one less at either end
pub mod RangeSteps
-- neighbours in a list that rises
pub mod RisingLists
-- bounds and parameters of a simplex
pub mod SimplexBounds
-- how many vectors a bounded sum has
pub mod SumCounts
-- which vectors a bounded sum has
pub mod SumMembers
-- the place of a vector of a bounded sum
pub mod SumPlaces
-- rows of counts of a bounded sum
pub mod SumRowLemmas
-- the least and the greatest vector of a sum, and the nearest to another
pub mod SumSuccessors
-- vectors of a sum built, and looked through
pub mod SumTails
-- triples of numbers that add to another
pub mod SumTriples
-- the first, next, previous and last vector of a bounded sum
pub mod SumWalks
-- three texts, one after another
pub mod TextParts
-- the name of a vector, entry by entry
pub mod VectorNames
-- how many entries a step changes and visits
pub mod VisitLemmas
-- sums of a sequence over a window
pub mod Windows
