-- Lines between vertices of a graph, from the last vertex down, and the events between them [GB_BASIC, lines].
use Rattle.std.specs.Prelude.{ℕ, pos, ◌<◌, ◌≤◌, ◌==◌, Bool, false, ◌||◌, List, [], ◌∷◌, map, filter, take, slice_index_or, if◌then◌else◌}
use Rattle.std.specs.List.{enumerate_from}
use Rattle.sgb_graph.specs.declared.fields.Link.{Link}
use Rattle.sgb_graph.specs.declared.fields.Ref.{Ref}
use Rattle.sgb_graph.specs.declared.fields.Ref.TheVariants.{Null, One, At}
use Rattle.sgb_ops.specs.Lines.{meets}
use Rattle.sgb_ops.specs.Compounds.{line_name}
use Rattle.sgb_graph.specs.Events.{Event}
use Rattle.sgb_ops.specs.declared.line_graphs.line.Line.{Line}

-- any line
abbrev pub no_line : Line
no_line = record { from = 0; to = 0 }

-- the line of an arc that is taken of v
abbrev pub line_of : ℕ → Link → Line
line_of v l = record { from = v; to = l.tip }

-- the tip is vertex v
abbrev pub points_to : Ref → ℕ → Bool
points_to r v = elim r [ Null ↦ false | One ↦ false | At w ↦ w == v ]

-- the two edges share a vertex
abbrev pub share_vertex : Line → Line → Bool
share_vertex a b = (a.from == b.from) || (a.from == b.to) || (a.to == b.from) || (a.to == b.to)

-- the two ends of the line are vertices of a graph that has n of them
abbrev pub LineWithin : ℕ → Line → Type 0
LineWithin n line = (line.from < n) × (line.to < n)

-- the line leads to no earlier vertex than it begins at
abbrev pub LeadsUp : Line → Type 0
LeadsUp line = line.from ≤ line.to

-- the lines begin at vertices up to this one, later ones no higher
abbrev pub DescendFrom : ℕ → List Line → Type 0
DescendFrom top [] = Unit {0}
DescendFrom top (line ∷ lines) = (line.from ≤ top) × DescendFrom line.from lines

-- among which lines those are that line number i is joined to: all, or undirected the earlier ones
abbrev pub lines_for : Bool → List Line → ℕ → List Line
lines_for directed lines i = if directed then lines else take i lines

-- from line number i to each of the others, which have the numbers from 0 on, that it meets, with length 1
abbrev pub events_to : Bool → ℕ → Line → List Line → List Event
events_to directed i line others =
    map (λ q. record { from = i; to = q.0; len = pos 1 }) (filter (λ q. meets directed line q.1) (enumerate_from 0 others))

-- the names of the lines between vertices of these names
abbrev pub names_of_lines : List (List ℕ) → Bool → List Line → List (List ℕ)
names_of_lines names directed lines = map (λ line. line_name directed (slice_index_or names line.from []) (slice_index_or names line.to [])) lines

-- the events of length 1 from line number i to those with these numbers
abbrev pub events_to_numbers : ℕ → List ℕ → List Event
events_to_numbers i numbers = map (λ j. record { from = i; to = j; len = pos 1 }) numbers
