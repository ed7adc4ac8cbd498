-- A search by levels: which vertices are found, and what is known of them.
use Rattle.std.specs.Prelude.{◌≡◌, ◌⊎◌, ◌≤◌, ◌<◌, ◌+◌, ℕ, suc, List, [], ◌∷◌, length, map, Option, Some, None}
use Rattle.std.specs.List.{Contains, slice_index_or}
use Rattle.sgb_graph.specs.Graphs.{GraphData, chain_of}
use Rattle.sgb_levels.specs.Distances.{HasArc, IsPath}

-- where the arcs of vertex v lead
abbrev pub tips_from : GraphData → ℕ → List ℕ
tips_from g v = map (λ l. l.tip) (chain_of g v)

-- v was found at the distance d
abbrev pub IsFoundAt : List (Option ℕ) → ℕ → ℕ → Type 0
IsFoundAt found v d = slice_index_or found v None ≡ Some d

-- each vertex to which an arc leads from u was found, at the distance d + 1 at most
abbrev pub IsLeft : GraphData → List (Option ℕ) → ℕ → ℕ → Type 0
IsLeft g found u d = (v : ℕ) → v < length g.vertices → HasArc g u v → (e : ℕ) × (e ≤ d + 1) × IsFoundAt found v e

-- found are vertices up to the distance k from vertex 0, those of the level at that distance; the others were left
pub record IsSearched (g : GraphData) (k : ℕ) (found : List (Option ℕ)) (level : List ℕ) : Type 0 where
  pub size : length found ≡ length g.vertices
  pub start : 0 < length g.vertices → IsFoundAt found 0 0
  pub paths : (v d : ℕ) → IsFoundAt found v d → (d ≤ k) × IsPath g 0 v d
  pub here : (v : ℕ) → Contains level v → IsFoundAt found v k
  pub left : (v d : ℕ) → IsFoundAt found v d → Contains level v ⊎ IsLeft g found v d

-- how many vertices were not found
abbrev pub unmarked : List (Option ℕ) → ℕ
unmarked [] = 0
unmarked (None ∷ found) = suc (unmarked found)
unmarked (Some d ∷ found) = unmarked found
