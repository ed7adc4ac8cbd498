-- The lemmas of sgb, by subject.
-- what needs no memory is never out of memory
pub mod CertainAnswers
-- texts written part by part
pub mod CutOff
-- the numbers that a flip draws
pub mod DrawnNumbers
-- what a run leaves, by how the answer ended
pub mod Endings
-- answers on small graphs
pub mod ExamplesAnswers
-- what is answered whatever memory there is
pub mod ExamplesCertain
-- what runs leave
pub mod ExamplesRuns
-- what writing leaves
pub mod ExamplesWriting
-- names of vectors that are kept
pub mod KeptNames
-- parts of a listing
pub mod Listings
-- listings from a generator's vectors
pub mod LocalListings
-- names of vectors, entry by entry
pub mod NameEntries
-- names in which digits are written over
pub mod WrittenDigits
-- names of vectors of which some entries are moved
pub mod MovedNames
-- lines of the arcs of a span
pub mod SpanLines
-- the first vertex of a name
pub mod Named
-- members of a family by their names
pub mod NamedMembers
-- texts handed to a page of output, part by part
pub mod Pages
-- refusals are never out of memory
pub mod Refusals
-- where a listing from vectors begins
pub mod ResumedListings
-- what answers depend on of standard input
pub mod StdinValues
