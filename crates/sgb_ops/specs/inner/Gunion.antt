-- The arcs of a union at one vertex [GB_BASIC, gunion].
use Rattle.std.specs.Prelude.{ℕ, Bool, List, [], ◌++◌, filter, nat_lt, if◌then◌else◌}
use Rattle.sgb_graph.specs.Graphs.{GraphData}
use Rattle.sgb_graph.specs.Vertices.{order_of}
use Rattle.sgb_graph.specs.declared.fields.Link.{Link}
use Rattle.sgb_taken.specs.Taken.{taken}

-- the arcs taken of v in g, then those taken of v in h, if it has that vertex, whose tip is a vertex of g
abbrev pub union_arcs : GraphData → GraphData → Bool → ℕ → List Link
union_arcs g h directed v =
    taken directed g v ++ (if nat_lt v (order_of h) then filter (λ l. nat_lt l.tip (order_of g)) (taken directed h v) else [])
