-- The graph that a list of events makes, as a whole [GB_GRAPH, gb_new_graph, gb_new_arc and gb_new_edge].
use Rattle.std.specs.Prelude.{ℕ, ◌==◌, Bool, List, [], ◌∷◌, length, map, zip, replicate, Option, Some, None, if◌then◌else◌}
use Rattle.std.specs.List.{enumerate_from}
use Rattle.sgb_graph.specs.Graphs.{GraphData, arc_record}
use Rattle.sgb_graph.specs.Events.{Event, all_records, list_of}
use Rattle.sgb_graph.specs.Descriptions.{Description}
use Rattle.sgb_graph.specs.declared.fields.Kind.{Kind}
use Rattle.sgb_graph.specs.declared.fields.Kind.TheVariants.{Z}
use Rattle.sgb_graph.specs.declared.fields.Util.{Util}
use Rattle.sgb_graph.specs.declared.fields.Util.TheVariants.{Nothing}
use Rattle.sgb_graph.specs.declared.fields.Link.{Link}

-- the kinds of a graph that uses no utility field: fourteen Z
abbrev pub no_kinds : List Kind
no_kinds = replicate 14 Z

-- the six utility fields of a vertex or of a graph, none of them used
abbrev pub no_fields : List Util
no_fields = replicate 6 Nothing

-- a graph with these events, of arcs where directed, else of edges, and these names and id, that uses no utility field
abbrev pub plain : Bool → List Event → List (List ℕ) → List ℕ → Description
plain directed events names id =
    record { id = id; directed = directed; events = events; kinds = no_kinds; util = no_fields; names = names; fields = map (λ x. no_fields) names }

-- the number of the first arc of a list
abbrev pub first_number : List Link → Option ℕ
first_number [] = None
first_number (l ∷ links) = Some l.number

-- the number of the arc that stands after arc k in a list
abbrev pub number_after : ℕ → List Link → Option ℕ
number_after k [] = None
number_after k (l ∷ links) = if l.number == k then first_number links else number_after k links

-- the graph that is described: its vertices, each with the first record of its list, and its events' records, each with the next one
abbrev pub graph_described : Description → GraphData
graph_described d = record {
  id = d.id;
  m = length (all_records d.directed d.events);
  kinds = d.kinds;
  util = d.util;
  vertices = map (λ p. record { name = p.1.0; arcs = first_number (list_of d.directed d.events p.0); util = p.1.1 })
      (enumerate_from 0 (zip d.names d.fields));
  records = map (λ p. arc_record p.1.tip (number_after p.0 (list_of d.directed d.events p.1.start)) p.1.len)
      (enumerate_from 0 (all_records d.directed d.events));
}
