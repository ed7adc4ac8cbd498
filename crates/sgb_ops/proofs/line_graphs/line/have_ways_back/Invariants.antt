use Rattle.std.proofs.Common.{◌≡◌, ℕ, false}
use Rattle.std.specs.List.{list_all}
use Rattle.sgb_graph.specs.Vertices.{order_of, places_of}
use Rattle.sgb_ops.specs.Lines.{has_way_back}
use Rattle.sgb_taken.specs.Taken.{taken}
use Rattle.sgb_ops.proofs.PlainLists.{places_from}
use Rattle.sgb_ops.proofs.line_graphs.line.have_ways_back.Given as goal

-- it is told by the vertices from v on
abbrev pub invariant-loop-v : goal.invariant-loop-v
invariant-loop-v l =
    let back = λ (u : ℕ). list_all (has_way_back l.graph u) (taken false l.graph u) in
    list_all back (places_from (order_of l.graph) l.v) ≡ list_all back (places_of l.graph)
