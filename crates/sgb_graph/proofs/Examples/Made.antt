-- The graphs of small lists of events: the way along the records gives each vertex the events' list.
use Rattle.std.specs.Prelude.{◌≡◌, ℕ, pos, Bool, true, false, List, [], ◌∷◌, map, codes, refl}
use Rattle.sgb_graph.specs.Graphs.{GraphData, numbers_from, ends_from, chain_of, ends_of}
use Rattle.sgb_graph.specs.Events.{Event, list_from, list_of}
use Rattle.sgb_graph.proofs.PlainGraphs.{plain_graph}
use Rattle.sgb_graph.specs.declared.fields.Link.{Link}

abbrev arc : ℕ → ℕ → ℕ → Event
arc u v l = record { from = u; to = v; len = pos l }

abbrev link : ℕ → ℕ → ℕ → Link
link k v l = record { number = k; tip = v; len = pos l }

-- an edge each way round, a loop between two others, and a second edge between the same ends
abbrev events : List Event
events = arc 0 1 4 ∷ arc 2 0 5 ∷ arc 1 1 6 ∷ arc 1 0 7 ∷ []

abbrev made : Bool → GraphData
made directed = plain_graph directed events (codes "a" ∷ codes "b" ∷ codes "c" ∷ codes "d" ∷ []) (codes "g")

-- the lists of the edges: later ones first, of the loop the even record first
pub lists_of_edges : map (list_of false events) (0 ∷ 1 ∷ 2 ∷ 3 ∷ [])
    ≡ (link 6 1 7 ∷ link 2 2 5 ∷ link 0 1 4 ∷ []) ∷ (link 7 0 7 ∷ link 4 1 6 ∷ link 5 1 6 ∷ link 1 0 4 ∷ []) ∷ (link 3 0 5 ∷ []) ∷ [] ∷ []
unfolding list_from
lists_of_edges = refl

pub lists_of_arcs : map (list_of true events) (0 ∷ 1 ∷ 2 ∷ 3 ∷ [])
    ≡ (link 0 1 4 ∷ []) ∷ (link 3 0 7 ∷ link 2 1 6 ∷ []) ∷ (link 1 0 5 ∷ []) ∷ [] ∷ []
unfolding list_from
lists_of_arcs = refl

-- the graph made of them has these lists
pub chains_of_edges : map (chain_of (made false)) (0 ∷ 1 ∷ 2 ∷ 3 ∷ []) ≡ map (list_of false events) (0 ∷ 1 ∷ 2 ∷ 3 ∷ [])
unfolding list_from numbers_from
chains_of_edges = refl

pub chains_of_arcs : map (chain_of (made true)) (0 ∷ 1 ∷ 2 ∷ 3 ∷ []) ≡ map (list_of true events) (0 ∷ 1 ∷ 2 ∷ 3 ∷ [])
unfolding list_from numbers_from
chains_of_arcs = refl

-- every way comes to an end
pub ways_end : map (λ r. ends_of (made false).records r.next) (made false).records
    ≡ true ∷ true ∷ true ∷ true ∷ true ∷ true ∷ true ∷ true ∷ []
unfolding list_from ends_from
ways_end = refl
