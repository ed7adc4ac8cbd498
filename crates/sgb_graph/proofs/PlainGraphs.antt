-- The graph of a list of events, as worked examples name it.
use Rattle.std.specs.Prelude.{ℕ, Bool, List}
use Rattle.sgb_graph.specs.Graphs.{GraphData}
use Rattle.sgb_graph.specs.Events.{Event}
use Rattle.sgb_graph.specs.Made.{plain, graph_described}

-- the graph of these events, on vertices of these names, with this id; it uses no utility field
abbrev pub plain_graph : Bool → List Event → List (List ℕ) → List ℕ → GraphData
plain_graph directed events names id = graph_described (plain directed events names id)
