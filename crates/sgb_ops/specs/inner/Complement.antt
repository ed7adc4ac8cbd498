-- The arcs of a complement from one vertex [GB_BASIC, complement].
use Rattle.std.specs.Prelude.{ℕ, pos, ◌==◌, ◌≤◌, ◌+◌, Bool, true, not, ◌&&◌, ◌||◌, List, [], ◌∷◌, map, filter, nat_le}
use Rattle.std.specs.Bool.{beq}
use Rattle.std.specs.List.{list_any}
use Rattle.sgb_graph.specs.Events.{Event}
use Rattle.sgb_graph.specs.Graphs.{GraphData, chain_of}
use Rattle.sgb_graph.specs.Vertices.{places_of}

-- u's list has an arc to w
abbrev pub has_arc : GraphData → ℕ → ℕ → Bool
has_arc g u w = list_any (λ l. l.tip == w) (chain_of g u)

-- the result has an arc from u to w, where the operand has one or not
abbrev pub is_wanted_where : Bool → Bool → Bool → Bool → ℕ → ℕ → Bool
is_wanted_where arc copy self directed u w =
    beq arc copy && (self || not (w == u)) && (directed || nat_le u w)

-- the result has an arc from u to w
abbrev pub is_wanted_arc : GraphData → Bool → Bool → Bool → ℕ → ℕ → Bool
is_wanted_arc g copy self directed u w = is_wanted_where (has_arc g u w) copy self directed u w

-- the wanted arcs from u in order, each of length 1
abbrev pub complement_events_from : GraphData → Bool → Bool → Bool → ℕ → List Event
complement_events_from g copy self directed u =
    map (λ w. record { from = u; to = w; len = pos 1 }) (filter (is_wanted_arc g copy self directed u) (places_of g))

-- the wanted arcs from u to these vertices, to each of which the operand has one
abbrev pub events_to : Bool → Bool → Bool → ℕ → List ℕ → List Event
events_to copy self directed u ws =
    map (λ w. record { from = u; to = w; len = pos 1 }) (filter (is_wanted_where true copy self directed u) ws)

-- numbers that rise, the first of which is at least k
abbrev pub AreFrom : ℕ → List ℕ → Type 0
AreFrom k [] = Unit {0}
AreFrom k (t ∷ ts) = (k ≤ t) × AreFrom (t + 1) ts
