-- The complement of a graph, or a copy of it without parallel arcs [GB_BASIC, complement].
use Rattle.std.specs.Prelude.{pos, ◌==◌, Bool, not, ◌&&◌, ◌||◌, List, [], ◌∷◌, map, filter, flat_map, codes, nat_le, Result, Ok}
use Rattle.std.specs.Bool.{beq}
use Rattle.std.specs.List.{list_any}
use Rattle.sgb_vec.specs.declared.panics.Panic.{Panic}
use Rattle.sgb_graph.specs.Graphs.{GraphData, chain_of}
use Rattle.sgb_graph.specs.Events.{Event}
use Rattle.sgb_graph.specs.Ids.{compound_id}
use Rattle.sgb_graph.specs.Descriptions.{Description}
use Rattle.sgb_graph.specs.Made.{plain}
use Rattle.sgb_graph.specs.Vertices.{places_of, names_of}
use Rattle.sgb_graph.specs.IdTexts.{flag_text}
use Rattle.sgb_ops.specs.Compounds.{closing}

-- for each u in order, and for each w in order, an arc of length 1 from u to w, where the operand has one if a copy is
-- wanted, and else where it has none; a loop only where loops are wanted; an edge only from its smaller end
abbrev pub complement_events : GraphData → Bool → Bool → Bool → List Event
complement_events g copy self directed = flat_map (λ u.
    map (λ w. record { from = u; to = w; len = pos 1 })
    (filter (λ w. beq (list_any (λ l. l.tip == w) (chain_of g u)) copy && (self || not (w == u)) && (directed || nat_le u w))
    (places_of g))) (places_of g)

-- complement(g, copy, self, directed): it is never refused
abbrev pub complement_of : GraphData → Bool → Bool → Bool → Result Description Panic
complement_of g copy self directed = Ok (plain directed (complement_events g copy self directed) (names_of g)
    (compound_id (codes "complement(") g.id (closing (flag_text copy ∷ flag_text self ∷ flag_text directed ∷ []))))
