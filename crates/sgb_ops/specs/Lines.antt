-- The line graph: a vertex for each arc or edge [GB_BASIC, lines].
use Rattle.std.specs.Prelude.{ℕ, pos, ◌+◌, ◌/◌, ◌==◌, Bool, true, false, not, ◌&&◌, ◌||◌, List, [], ◌∷◌, map, reverse, filter, flat_map, take, length, slice_get, codes, nat_lt, if◌then◌else◌, Result, Ok, Err}
use Rattle.std.specs.List.{list_all, enumerate_from}
use Rattle.std.specs.Option.{option_map_or}
use Rattle.sgb_vec.specs.Limits.{most_vertices}
use Rattle.sgb_vec.specs.Results.{and_then}
use Rattle.sgb_vec.specs.declared.panics.Panic.{Panic}
use Rattle.sgb_vec.specs.declared.panics.Panic.TheVariants.{VeryBad, Invalid}
use Rattle.sgb_graph.specs.Graphs.{GraphData}
use Rattle.sgb_graph.specs.Events.{Event}
use Rattle.sgb_graph.specs.Ids.{compound_id}
use Rattle.sgb_graph.specs.declared.fields.Link.{Link}
use Rattle.sgb_graph.specs.declared.fields.Ref.TheVariants.{Null, One, At}
use Rattle.sgb_graph.specs.Descriptions.{Description}
use Rattle.sgb_graph.specs.Made.{plain}
use Rattle.sgb_graph.specs.Vertices.{places_of, name_at}
use Rattle.sgb_ops.specs.declared.line_graphs.line.Line.{Line}
use Rattle.sgb_taken.specs.Taken.{taken}
use Rattle.sgb_graph.specs.IdTexts.{flag_text}
use Rattle.sgb_ops.specs.Compounds.{closing, line_name}

-- the lines: the arcs taken of each vertex, from the last vertex down to the first
abbrev pub lines_of_graph : GraphData → Bool → List Line
lines_of_graph g directed = flat_map (λ v. map (λ l. record { from = v; to = l.tip }) (taken directed g v)) (reverse (places_of g))

-- the record after the one of this arc of v is there, and its tip is v
abbrev pub has_way_back : GraphData → ℕ → Link → Bool
has_way_back g v l =
    option_map_or (λ r. elim r.tip [ Null ↦ false | One ↦ false | At w ↦ w == v ]) (slice_get g.records (l.number + 1)) false

-- every line is an edge with its two records, and the lines number half of the graph's arcs, rounded down
abbrev pub is_of_edges : GraphData → List Line → Bool
is_of_edges g lines = list_all (λ v. list_all (has_way_back g v) (taken false g v)) (places_of g) && (length lines == g.m / 2)

-- the lines, or why they are refused: no graph of edges where one is wanted; then more lines than a graph can have vertices
abbrev pub accepted_lines : GraphData → Bool → List Line → Result (List Line) Panic
accepted_lines g directed lines = if not directed && not (is_of_edges g lines) then Err Invalid
    else (if nat_lt most_vertices (length lines) then Err VeryBad else Ok lines)

-- directed, the other line begins where this one ends; undirected, they share a vertex
abbrev pub meets : Bool → Line → Line → Bool
meets true a b = b.from == a.to
meets false a b = (a.from == b.from) || (a.from == b.to) || (a.to == b.from) || (a.to == b.to)

-- the events, of length 1: from each line in order to each in order that it meets, of all lines, or undirected of earlier ones
abbrev pub line_events : Bool → List Line → List Event
line_events directed lines = flat_map (λ p.
    map (λ q. record { from = p.0; to = q.0; len = pos 1 })
    (filter (λ q. meets directed p.1 q.1) (enumerate_from 0 (if directed then lines else take p.0 lines)))) (enumerate_from 0 lines)

-- lines(g, directed): its vertices are the lines of g, and lines that meet have an event; or why it is refused
abbrev pub line_graph_of : GraphData → Bool → Result Description Panic
line_graph_of g directed = and_then (accepted_lines g directed (lines_of_graph g directed)) (λ lines.
    Ok (plain directed (line_events directed lines)
    (map (λ line. line_name directed (name_at g line.from) (name_at g line.to)) lines)
    (compound_id (codes "lines(") g.id (closing (flag_text directed ∷ [])))))
