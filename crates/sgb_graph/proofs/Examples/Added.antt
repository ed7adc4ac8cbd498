-- Graphs that grow by an arc or an edge at a time: their records and first records, worked out by hand.
use Rattle.std.specs.Prelude.{◌≡◌, ℕ, pos, Bool, true, false, List, [], ◌∷◌, codes, refl, Option, Some, None}
use Rattle.std.specs.Fmt.{digits}
use Rattle.sgb_graph.specs.Graphs.{GraphData}
use Rattle.sgb_graph.specs.Events.{Event, list_from}
use Rattle.sgb_graph.specs.Growth.{HasPlainArcs, graph_data, new_graph, with_arc, with_edge, with_events, with_id, with_ints, with_uu}
use Rattle.sgb_graph.specs.Made.{no_fields, no_kinds}
use Rattle.sgb_graph.specs.declared.fields.Kind.TheVariants.{Z, I}
use Rattle.sgb_graph.specs.declared.fields.Ref.TheVariants.{At}
use Rattle.sgb_graph.specs.declared.fields.Util.TheVariants.{Nothing, Int, Str}
use Rattle.sgb_graph.specs.declared.fields.Vertex.{Vertex}
use Rattle.sgb_graph.specs.declared.fields.ArcRec.{ArcRec}
use Rattle.sgb_graph.proofs.PlainGraphs.{plain_graph}

-- an event, a vertex with this name and first record, and a record
abbrev event : ℕ → ℕ → ℕ → Event
event u v l = record { from = u; to = v; len = pos l }

abbrev vertex : List ℕ → Option ℕ → Vertex
vertex text first = record { name = text; arcs = first; util = no_fields }

abbrev arc : ℕ → Option ℕ → ℕ → ArcRec
arc v after l = record { tip = At v; next = after; len = pos l; a = Nothing; b = Nothing }

-- an edge each way round, a loop between two others, and a second edge between the same ends
abbrev events : List Event
events = event 0 1 4 ∷ event 2 0 5 ∷ event 1 1 6 ∷ event 1 0 7 ∷ []

abbrev names : List (List ℕ)
names = codes "a" ∷ codes "b" ∷ codes "c" ∷ codes "d" ∷ []

abbrev grown : Bool → GraphData
grown directed = with_id (codes "g") (with_events directed (new_graph names) events)

-- as edges: two records each, the lower at the smaller end; of the loop the lower one leads to the higher
pub by_edges : grown false ≡ graph_data (codes "g") 8 no_kinds no_fields
    (vertex (codes "a") (Some 6) ∷ vertex (codes "b") (Some 7) ∷ vertex (codes "c") (Some 3) ∷ vertex (codes "d") None ∷ [])
    (arc 1 None 4 ∷ arc 0 None 4 ∷ arc 2 (Some 0) 5 ∷ arc 0 None 5 ∷ arc 1 (Some 5) 6 ∷ arc 1 (Some 1) 6 ∷ arc 1 (Some 2) 7 ∷ arc 0 (Some 4) 7 ∷ [])
by_edges = refl

-- as arcs: one record each
pub by_arcs : grown true ≡ graph_data (codes "g") 4 no_kinds no_fields
    (vertex (codes "a") (Some 0) ∷ vertex (codes "b") (Some 3) ∷ vertex (codes "c") (Some 1) ∷ vertex (codes "d") None ∷ [])
    (arc 1 None 4 ∷ arc 0 None 5 ∷ arc 1 None 6 ∷ arc 0 (Some 2) 7 ∷ [])
by_arcs = refl

-- they are the graphs that the events describe
pub edges_described : grown false ≡ plain_graph false events names (codes "g")
unfolding list_from
edges_described = refl

pub arcs_described : grown true ≡ plain_graph true events names (codes "g")
unfolding list_from
arcs_described = refl

-- a graph whose number of arcs is not that of its records, as a file may bring it
abbrev brought : GraphData
brought = graph_data (codes "f") 10 no_kinds no_fields (vertex (codes "a") None ∷ vertex (codes "b") (Some 0) ∷ []) (arc 0 None 4 ∷ [])

pub arc_to_it : with_arc brought 1 0 (pos 3)
    ≡ graph_data (codes "f") 11 no_kinds no_fields (vertex (codes "a") None ∷ vertex (codes "b") (Some 1) ∷ []) (arc 0 None 4 ∷ arc 0 (Some 0) 3 ∷ [])
arc_to_it = refl

pub edge_to_it : with_edge brought 1 0 (pos 3)
    ≡ graph_data (codes "f") 12 no_kinds no_fields (vertex (codes "a") (Some 1) ∷ vertex (codes "b") (Some 2) ∷ []) (arc 0 None 4 ∷ arc 1 None 3 ∷ arc 0 (Some 0) 3 ∷ [])
edge_to_it = refl

-- numbers for the second vertex: the first one keeps the number that it has, and gets 0 where it has none
abbrev numbered : GraphData
numbered = with_ints
    (graph_data (codes "n") 0 no_kinds no_fields
    (record { name = codes "a"; arcs = None; util = Nothing ∷ Nothing ∷ Nothing ∷ Int (pos 7) ∷ Str (codes "s") ∷ Nothing ∷ [] } ∷ vertex (codes "b") None ∷ []) [])
    1 (pos 1) (pos 2) (pos 3)

pub numbers_put : numbered ≡ graph_data (codes "n") 0 (Z ∷ Z ∷ Z ∷ I ∷ I ∷ I ∷ Z ∷ Z ∷ Z ∷ Z ∷ Z ∷ Z ∷ Z ∷ Z ∷ []) no_fields
    (record { name = codes "a"; arcs = None; util = Nothing ∷ Nothing ∷ Nothing ∷ Int (pos 7) ∷ Int (pos 0) ∷ Int (pos 0) ∷ [] }
    ∷ record { name = codes "b"; arcs = None; util = Nothing ∷ Nothing ∷ Nothing ∷ Int (pos 1) ∷ Int (pos 2) ∷ Int (pos 3) ∷ [] } ∷ []) []
numbers_put = refl

-- the id of a new graph of four vertices, whose arcs have no utility fields
pub new_id_of_four : (new_graph names).id ≡ codes "gb_new_graph(4)"
unfolding digits
new_id_of_four = refl

pub new_arcs_are_plain : HasPlainArcs (new_graph names)
new_arcs_are_plain = refl

-- a number in the graph's own field uu
pub uu_put : with_uu (pos 5) brought
    ≡ record brought { kinds = Z ∷ Z ∷ Z ∷ Z ∷ Z ∷ Z ∷ Z ∷ Z ∷ I ∷ Z ∷ Z ∷ Z ∷ Z ∷ Z ∷ []; util = Int (pos 5) ∷ Nothing ∷ Nothing ∷ Nothing ∷ Nothing ∷ Nothing ∷ [] }
uu_put = refl
