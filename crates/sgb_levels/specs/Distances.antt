-- Walks along the arcs of a graph, and distances.
use Rattle.std.specs.Prelude.{◌≡◌, ◌≤◌, ◌<◌, ℕ, List, [], ◌∷◌, length, map, Option, Some, None}
use Rattle.std.specs.List.{Contains, slice_index_or}
use Rattle.sgb_graph.specs.Graphs.{GraphData, chain_of}

-- an arc leads from u to v
abbrev pub HasArc : GraphData → ℕ → ℕ → Type 0
HasArc g u v = Contains (map (λ l. l.tip) (chain_of g u)) v

-- after u come these vertices, and from each of them an arc leads to the next
abbrev pub IsWalk : GraphData → ℕ → List ℕ → Type 0
IsWalk g u [] = Unit {0}
IsWalk g u (v ∷ vs) = HasArc g u v × IsWalk g v vs

-- where a walk from u ends
abbrev pub end_of : ℕ → List ℕ → ℕ
end_of u [] = u
end_of u (v ∷ vs) = end_of v vs

-- some walk of k arcs leads from u to v
abbrev pub IsPath : GraphData → ℕ → ℕ → ℕ → Type 0
IsPath g u v k = (vs : List ℕ) × IsWalk g u vs × (length vs ≡ k) × (end_of u vs ≡ v)

-- the distance from u to v is d: some walk has so many arcs, and none has fewer
pub record IsDistance (g : GraphData) (u v d : ℕ) : Type 0 where
  pub path : IsPath g u v d
  pub least : (k : ℕ) → IsPath g u v k → d ≤ k

-- this is the distance from u to v, or no walk leads there
abbrev pub IsDistanceIfAny : GraphData → ℕ → ℕ → Option ℕ → Type 0
IsDistanceIfAny g u v (Some d) = IsDistance g u v d
IsDistanceIfAny g u v None = (k : ℕ) → IsPath g u v k → ⊥

-- the distance from u to each vertex to which a walk leads
pub record AreDistances (g : GraphData) (u : ℕ) (distances : List (Option ℕ)) : Type 0 where
  pub size : length distances ≡ length g.vertices
  pub each : (v : ℕ) → v < length g.vertices → IsDistanceIfAny g u v (slice_index_or distances v None)
