-- The union of two graphs on the vertices of the first; vertices correspond by their places [GB_BASIC, gunion].
use Rattle.std.specs.Prelude.{Bool, List, [], ◌∷◌, ◌++◌, map, filter, flat_map, codes, nat_lt, if◌then◌else◌, Result, Ok}
use Rattle.sgb_vec.specs.declared.panics.Panic.{Panic}
use Rattle.sgb_graph.specs.Graphs.{GraphData}
use Rattle.sgb_graph.specs.Events.{Event}
use Rattle.sgb_graph.specs.Ids.{double_compound_id}
use Rattle.sgb_graph.specs.Descriptions.{Description}
use Rattle.sgb_graph.specs.Made.{plain}
use Rattle.sgb_graph.specs.Vertices.{order_of, places_of, names_of}
use Rattle.sgb_taken.specs.Taken.{taken}
use Rattle.sgb_ops.specs.Merged.{merged_unless}
use Rattle.sgb_graph.specs.IdTexts.{flag_text}
use Rattle.sgb_ops.specs.Compounds.{closing}

-- the events of all vertices, with parallel ones: of each v the arcs taken in g, then those taken in h whose tip is in g
abbrev pub union_events : GraphData → GraphData → Bool → List Event
union_events g h directed = flat_map (λ v.
    map (λ l. record { from = v; to = l.tip; len = l.len })
    (taken directed g v ++ (if nat_lt v (order_of h) then filter (λ l. nat_lt l.tip (order_of g)) (taken directed h v) else []))) (places_of g)

-- gunion(g, h, multi, directed): it is never refused
abbrev pub gunion_of : GraphData → GraphData → Bool → Bool → Result Description Panic
gunion_of g h multi directed = Ok (plain directed (merged_unless multi directed (union_events g h directed)) (names_of g)
    (double_compound_id (codes "gunion(") g.id (codes ",") h.id (closing (flag_text multi ∷ flag_text directed ∷ []))))
