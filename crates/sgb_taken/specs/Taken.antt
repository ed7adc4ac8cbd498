-- The arcs that are taken of a vertex's list, so that each edge of an undirected graph is met once
-- [GB_BASIC, gunion, intersection, lines, product, induced].
use Rattle.std.specs.Prelude.{ℕ, ◌+◌, ◌*◌, ◌==◌, min, max, Bool, true, false, ◌&&◌, List, [], ◌∷◌, filter, nat_lt, if◌then◌else◌}
use Rattle.std.specs.List.{enumerate_from}
use Rattle.sgb_graph.specs.Graphs.{GraphData, chain_of}
use Rattle.sgb_graph.specs.Events.{Event}
use Rattle.sgb_graph.specs.declared.fields.Link.{Link}

-- of the list of v, the arcs whose tip is at least v. After a loop that is taken the next record is left out if it has the
-- next number, as the loop's other record has: whatever its tip is, and no other is left out for it
unfoldable pub each_edge_once : ℕ → List Link → List Link
each_edge_once v [] = []
each_edge_once v (l ∷ []) = if nat_lt l.tip v then [] else l ∷ []
each_edge_once v (l ∷ k ∷ links) = if nat_lt l.tip v then each_edge_once v (k ∷ links)
    else l ∷ (if (l.tip == v) && (k.number == l.number + 1) then each_edge_once v links else each_edge_once v (k ∷ links))

-- the arcs taken of vertex v: the whole list for a directed result
abbrev pub taken : Bool → GraphData → ℕ → List Link
taken true g v = chain_of g v
taken false g v = each_edge_once v (chain_of g v)

-- the edges whose smaller end is v, each with its place among all
abbrev pub edges_up_from : ℕ → List Event → List (ℕ × Event)
edges_up_from v events = filter (λ p. min p.1.from p.1.to == v) (enumerate_from 0 events)

-- the lower record of the edge at this place: the two of it have the numbers 2 k and 2 k + 1
abbrev pub lower_record : ℕ × Event → Link
lower_record p = record { number = 2 * p.0; tip = max p.1.from p.1.to; len = p.1.len }
