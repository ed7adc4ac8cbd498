-- What only the private contracts and the proofs of sgb_ops speak of.
-- an induced graph under way
pub mod Begun
-- what bi_complete and wheel make of boards
pub mod Boards
-- the circle that is the rim of a wheel
pub mod Circles
-- the arcs of a complement from one vertex
pub mod Complement
-- ids, and names made of names
pub mod Compounds
-- where the copies of a vertex begin and end
pub mod Copies
-- the ends of events, and events merged one by one
pub mod Ends
-- how many vertices entries make, and their names
pub mod Entries
-- the arcs of a union at one vertex
pub mod Gunion
-- the events of an induced graph, part by part
pub mod Induced
-- the events of an intersection one by one
pub mod Intersection
-- the earlier lines at each vertex
pub mod LineLists
-- how many lines begin at a vertex, and there or later
pub mod LineRuns
-- lines between vertices of a graph, and the events between them
pub mod Lines
-- events made one, and events no two of which have the same ends
pub mod Merged
-- pairs of vertices, and a graph under way with a vertex for each
pub mod Pairs
-- when events may be merged part by part
pub mod Parts
-- entries kept in few bytes, and the graph that one puts in
pub mod Slots
-- the graphs that an operation reads
pub mod Sources
-- the steps of a product, part by part
pub mod Steps
-- arcs that are handed out one by one, and the events of those taken
pub mod TakenEvents
-- what is noted of the arcs to each vertex
pub mod Tallies
