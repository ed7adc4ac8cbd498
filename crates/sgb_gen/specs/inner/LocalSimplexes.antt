-- The list of one vector of a simplex, by pairs of its places.
use Rattle.std.specs.Prelude.{ℕ, pos, Bool, true, false, List, [], ◌∷◌, ◌++◌, length, map, filter, reverse, if◌then◌else◌}
use Rattle.std.specs.List.{flat_map, range_with_len}
use Rattle.sgb_gen.specs.LocalLists.{LocalArc, LinksData}
use Rattle.sgb_gen.specs.Simplexes.{Places, can_move_unit, unit_moved, pairs_of_places}
use Rattle.sgb_gen.specs.inner.Simplexes.{can_shift, shifted, pairs_from}

-- a unit of v can go back from the higher place to the lower one
abbrev pub can_return : List ℕ → List ℕ → Places → Bool
can_return bounds v at = can_move_unit bounds v at.higher at.lower

-- v with a unit gone back from the higher place to the lower one
abbrev pub returned : List ℕ → Places → List ℕ
returned v at = unit_moved v at.higher at.lower

-- the arc of x to the vector that it becomes when a unit goes from one place to another, if it can
abbrev pub arc_by_unit : List ℕ → List ℕ → ℕ → ℕ → List LocalArc
arc_by_unit bounds x from to =
    if can_move_unit bounds x from to then record { tip = unit_moved x from to; len = pos 1 } ∷ [] else []

-- the arcs of x to the vectors that it becomes when a unit goes to a lower place, by these pairs of places
abbrev pub arcs_back : List ℕ → List ℕ → List Places → List LocalArc
arcs_back bounds x pairs =
    map (λ at. record { tip = returned x at; len = pos 1 }) (filter (can_return bounds x) pairs)

-- and to those that it becomes when a unit goes to a higher place
abbrev pub arcs_on : List ℕ → List ℕ → List Places → List LocalArc
arcs_on bounds x pairs =
    map (λ at. record { tip = shifted x at; len = pos 1 }) (filter (can_shift bounds x) pairs)

-- the pairs of place j and a higher one, the highest first
abbrev pub pairs_down : ℕ → ℕ → List Places
pairs_down n j = reverse (pairs_from n j)

-- the pairs of all places, by their lower places in order
abbrev pub pairs_back : ℕ → List Places
pairs_back n = flat_map (pairs_down n) (range_with_len 0 n)

-- the list of x: first the arcs by a unit that goes to a lower place, and in an undirected graph then those by one
-- that goes to a higher place, in the other order of the pairs
abbrev pub arcs_by_pairs : Bool → List ℕ → List ℕ → List LocalArc
arcs_by_pairs true bounds x = arcs_back bounds x (pairs_back (length x))
arcs_by_pairs false bounds x =
    arcs_back bounds x (pairs_back (length x)) ++ arcs_on bounds x (reverse (pairs_of_places (length x)))

-- links with these arcs behind the others
abbrev pub with_arcs : LinksData → List LocalArc → LinksData
with_arcs links arcs = record { width = links.width; arcs = links.arcs ++ arcs }
