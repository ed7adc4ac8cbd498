-- Lemmas on the definitions, and worked examples.
-- numbers in a row, a list that grows, a filter that keeps all
pub mod PlainLists
-- when events have the same ends
pub mod Ends
-- merged events: each is kept, the first ones, the shortest
pub mod Merging
-- events merged one by one
pub mod MergeSteps
-- events merged part by part
pub mod MergedParts
-- events told apart by a table of bits
pub mod Apart
-- how many vertices entries make, and where their copies are
pub mod EntryTotals
-- events and arcs between the vertices of a graph
pub mod EventsWithin
-- the wanted events of an induced graph, part by part
pub mod WantedEvents
-- what is told of arcs by their tips and lengths alone
pub mod ReadArcs
-- the circle that is the rim of a wheel, as a board's graph
pub mod CircleBoards
-- the entry that it is, built or not
pub mod RimEntries
-- its edges at each vertex
pub mod EdgesAround
-- the names and the events of copies fit
pub mod CopiesWithin
-- the events of a list by its tips and lengths
pub mod ListedEvents
-- the events of a union
pub mod UnionEvents
-- what is noted of arcs
pub mod TallyLemmas
-- the events of an intersection
pub mod CommonEvents
-- arcs as far as their tips and lengths go
pub mod BareArcs
-- the events of arcs that are handed out one by one
pub mod KeptEvents
-- the arcs of a copy
pub mod CopiedArcs
-- marks at the tips of arcs
pub mod Marks
-- events added place by place and arc by arc
pub mod Places
-- the pairs of vertices of two graphs
pub mod Pairs
-- the steps of a product by arcs that are read
pub mod Steps
-- the graph that an operation ends with
pub mod Results
-- answers one after another
pub mod AnswersOnward
-- the wanted arcs of a complement
pub mod ComplementEvents
-- the ids of results, whole or cut
pub mod CompoundIds
-- names made of names are texts
pub mod JoinedNames
-- lines and the events between them, one by one
pub mod LineEvents
-- the earlier lines at each vertex give the edges
pub mod LineLists
-- the lines that begin at one vertex, as a run, give the arcs
pub mod LineRuns
-- the lines of a graph of edges
pub mod EdgeLines
-- the copies of the vertices, in order and apart
pub mod CopiesInOrder
-- entries without the graphs that they put in
pub mod SizedEntries
-- events in parts that rise
pub mod RisingParts
-- events whose ends have rising sums
pub mod RisingSums
-- events whose ends have different sums
pub mod OwnSums
-- the events of an induced graph, part by part
pub mod InducedParts
-- arcs of which no two lead to one vertex, and the events for them
pub mod ArcsApart
-- an induced graph under way
pub mod BegunGraphs
-- worked examples
pub mod Examples
-- refusals that come before memory is taken
pub mod Refusals
