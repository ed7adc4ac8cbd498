-- Lists of one vector of subsets, evaluated.
use Rattle.std.specs.Prelude.{◌≡◌, ℕ, pos, Bool, true, false, List, [], ◌∷◌, map, refl}
use Rattle.sgb_vec.specs.Boxes.{box}
use Rattle.sgb_vec.specs.Sums.{bounded_sums}
use Rattle.sgb_graph.specs.Events.{list_from}
use Rattle.sgb_gen.specs.Subsets.{SubsetsData, subsets_vectors, moves_of_subsets}
use Rattle.sgb_gen.specs.LocalLists.{LocalArc, list_at}
use Rattle.sgb_gen.specs.inner.LocalSubsets.{arcs_by_walk}

-- multisets of two elements of three, joined where they have one or two in common
abbrev pairs : Bool → SubsetsData
pairs directed =
    record { params = []; sum = record { total = 2; bounds = 2 ∷ 2 ∷ 2 ∷ [] }; size_bits = 6; directed = directed }

-- the vector 0.1.1
abbrev middle : List ℕ
middle = 0 ∷ 1 ∷ 1 ∷ []

-- arcs of length 1 to these vectors
abbrev unit_arcs : List (List ℕ) → List LocalArc
unit_arcs tips = map (λ v. record { tip = v; len = pos 1 }) tips

-- its loop stands twice on its list
abbrev all_tips : List (List ℕ)
all_tips =
    (1 ∷ 1 ∷ 0 ∷ []) ∷ (1 ∷ 0 ∷ 1 ∷ []) ∷ (0 ∷ 2 ∷ 0 ∷ []) ∷ middle ∷ middle ∷ (0 ∷ 0 ∷ 2 ∷ []) ∷ []

pub list_of_pairs : list_at false (subsets_vectors (pairs false)) (moves_of_subsets (pairs false)) middle ≡ unit_arcs all_tips
unfolding box bounded_sums list_from list_at moves_of_subsets
list_of_pairs = refl

pub walk_of_pairs : arcs_by_walk false 6 (subsets_vectors (pairs false)) middle ≡ unit_arcs all_tips
unfolding box bounded_sums
walk_of_pairs = refl

-- and once where the graph is directed
abbrev later_tips : List (List ℕ)
later_tips = (1 ∷ 1 ∷ 0 ∷ []) ∷ (1 ∷ 0 ∷ 1 ∷ []) ∷ (0 ∷ 2 ∷ 0 ∷ []) ∷ middle ∷ []

pub list_of_pairs-directed : list_at true (subsets_vectors (pairs true)) (moves_of_subsets (pairs true)) middle ≡ unit_arcs later_tips
unfolding box bounded_sums list_from list_at moves_of_subsets
list_of_pairs-directed = refl

pub walk_of_pairs-directed : arcs_by_walk true 6 (subsets_vectors (pairs true)) middle ≡ unit_arcs later_tips
unfolding box bounded_sums
walk_of_pairs-directed = refl
