-- The lemmas of sgb_arrays, by subject.
-- values put from a place on
pub mod PutValues
-- what is left of a walk through the lists, or through the names
pub mod PartsLeft
-- runs, one vertex more
pub mod RunSteps
-- a run by its own places
pub mod RunPlaces
-- arrays of all lists, cut down to a run
pub mod CutRuns
-- lists that share records
pub mod SharedLists
-- all lists have as many arcs as the graph counts
pub mod AllArcs
-- arrays of a run, copied to others of their lengths
pub mod CopiedRuns
-- runs of a generator's graph
pub mod LocalRuns
-- integers of a generator's vertices
pub mod LocalFields
-- a generator's graph, built
pub mod BuiltGraphs
-- draws, one after another
pub mod DrawsPut
-- integers of a field
pub mod FieldValues
-- arrays of which a graph is made
pub mod GivenLists
-- names as lines
pub mod NameLines
-- graphs that are copied part by part
pub mod CopiedGraphs
-- worked examples
pub mod Examples
-- lists that are handed out arc by arc, put into rows
pub mod PlacedRows
-- lengths of which the first ones are the same
pub mod PackedLengths
