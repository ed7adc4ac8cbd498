-- Events with the same ends, and the shortest of them.
use Rattle.std.specs.Prelude.{◌≡◌, ◌≤ℤ◌, pos, negsuc, Bool, true, false, List, [], ◌∷◌, map, refl}
use Rattle.std.proofs.Common.{arith}
use Rattle.std.proofs.lemmas.List.Elements.{All-cons, All-nil}
use Rattle.sgb_vec.proofs.Lists.{Contains-first, Contains-other}
use Rattle.sgb_graph.specs.Events.{Event}
use Rattle.sgb_ops.specs.Lengths.{least_of}
use Rattle.sgb_ops.specs.Merged.{has_ends_of, named_ends, first_ones, IsShortest}
use Rattle.sgb_ops.proofs.Examples.Operands.{event}

-- the ends of an edge from 1 to 2 in either order, those of an arc in one
pub ends_told :
    (map (has_ends_of false (event 1 2 3)) (event 1 2 9 ∷ event 2 1 9 ∷ event 1 3 9 ∷ event 3 2 9 ∷ event 2 3 9 ∷ event 3 1 9 ∷ event 1 1 9 ∷ event 2 2 9 ∷ [])
    ≡ true ∷ true ∷ false ∷ false ∷ false ∷ false ∷ false ∷ false ∷ [])
    × (map (has_ends_of true (event 1 2 3)) (event 1 2 9 ∷ event 2 1 9 ∷ []) ≡ true ∷ false ∷ [])
    × (named_ends (event 1 2 3) ≡ (1, 2))
ends_told = (refl, refl, refl)

-- two edges of a triangle, of which one has a parallel edge the other way, and a loop
abbrev edges : List Event
edges = event 0 1 5 ∷ event 2 2 8 ∷ event 1 0 3 ∷ event 2 2 9 ∷ []

pub first_edges : first_ones false edges ≡ event 0 1 5 ∷ event 2 2 8 ∷ []
first_edges = refl

-- arcs to and fro have not the same ends
pub first_arcs : first_ones true edges ≡ event 0 1 5 ∷ event 2 2 8 ∷ event 1 0 3 ∷ []
first_arcs = refl

-- an event with the ends of e is not shorter
abbrev no_shorter : Bool → Event → Event → Type 0
no_shorter directed e f = has_ends_of directed e f ≡ true → e.len ≤ℤ f.len

-- an edge of the length of the one the other way, which is shorter
pub shortest_edge : IsShortest false (event 0 1 5 ∷ event 1 0 3 ∷ []) (event 0 1 3)
shortest_edge = record {
  one = (event 1 0 3, Contains-other (event 0 1 5) (event 1 0 3) (event 1 0 3 ∷ []) (Contains-first (event 1 0 3) []), refl, refl);
  least = All-cons (no_shorter false (event 0 1 3)) (event 0 1 5) (event 1 0 3 ∷ []) (λ same. omega arith)
      (All-cons (no_shorter false (event 0 1 3)) (event 1 0 3) [] (λ same. omega arith) (All-nil (no_shorter false (event 0 1 3))));
}

-- as an arc it is not compared with that one
pub shortest_arc : IsShortest true (event 0 1 5 ∷ event 1 0 3 ∷ []) (event 0 1 5)
shortest_arc = record {
  one = (event 0 1 5, Contains-first (event 0 1 5) (event 1 0 3 ∷ []), refl, refl);
  least = All-cons (no_shorter true (event 0 1 5)) (event 0 1 5) (event 1 0 3 ∷ []) (λ same. omega arith)
      (All-cons (no_shorter true (event 0 1 5)) (event 1 0 3) [] (λ same. let never : false ≡ true = same in absurd cc) (All-nil (no_shorter true (event 0 1 5))));
}

-- the longer edge is not the shortest
pub longer_edge : IsShortest false (event 0 1 5 ∷ event 1 0 3 ∷ []) (event 0 1 5) → ⊥
longer_edge shortest = let long : pos 5 ≤ℤ pos 3 = shortest.least 1 (event 1 0 3) (omega arith) refl in absurd (omega (arith, long))

-- of no lengths it is 0
pub least_lengths : map least_of ([] ∷ (pos 5 ∷ negsuc 2 ∷ pos 4 ∷ []) ∷ []) ≡ pos 0 ∷ negsuc 2 ∷ []
least_lengths = refl
