-- Arrays that tell a graph, and what may be wrong with them.
use Rattle.std.proofs.Common.{◌≡◌, ◌^◌, ℕ, ℤ, pos, negsuc, false, List, [], ◌∷◌, map, Option, Some, None, refl}
use Rattle.std.specs.Prelude.{codes}
use Rattle.sgb_graph.specs.Graphs.{GraphData, chain_of, numbers_from}
use Rattle.sgb_arrays.specs.Given.{fault_of, graph_given, names_given}
use Rattle.sgb_arrays.specs.declared.given.Unmade.{Unmade}
use Rattle.sgb_arrays.specs.declared.given.Unmade.TheVariants as unmade

-- names one after another: one may be empty
pub names_one_by_one : names_given (0 ∷ 1 ∷ 1 ∷ 3 ∷ []) (codes "abc") ≡ codes "a" ∷ [] ∷ codes "bc" ∷ []
names_one_by_one = refl

-- nothing is wrong; an end is no vertex; a byte may stand in no name; a table falls, or ends too early; a length is left
abbrev faults : (starts bytes from to : List ℕ) (lengths : List ℤ) → Option Unmade
faults starts bytes from to lengths = fault_of starts bytes from to lengths (codes "mine")

pub nothing_wrong : faults (0 ∷ 1 ∷ 2 ∷ []) (codes "ab") (0 ∷ 1 ∷ []) (1 ∷ 1 ∷ []) (negsuc 4 ∷ pos 0 ∷ []) ≡ None
nothing_wrong = refl

pub end_wrong : faults (0 ∷ 1 ∷ 2 ∷ []) (codes "ab") (0 ∷ 1 ∷ []) (1 ∷ 2 ∷ []) (pos 5 ∷ pos 6 ∷ []) ≡ Some unmade.Vertices
end_wrong = refl

pub byte_wrong : faults (0 ∷ 1 ∷ 2 ∷ []) (34 ∷ 97 ∷ []) (0 ∷ []) (1 ∷ []) (pos 5 ∷ []) ≡ Some unmade.Text
byte_wrong = refl

pub table_falls : faults (0 ∷ 2 ∷ 1 ∷ 2 ∷ []) (codes "ab") [] [] [] ≡ Some unmade.Length
table_falls = refl

pub table_short : faults (0 ∷ 1 ∷ []) (codes "ab") [] [] [] ≡ Some unmade.Length
table_short = refl

pub length_left : faults (0 ∷ 1 ∷ []) (codes "a") (0 ∷ []) (0 ∷ []) (pos 1 ∷ pos 1 ∷ []) ≡ Some unmade.Length
length_left = refl

-- a triangle: its edges in order, each two records, and the later ones first in the lists
abbrev triangle : GraphData
triangle = graph_given (0 ∷ 1 ∷ 2 ∷ 3 ∷ []) (codes "abc") (0 ∷ 1 ∷ 2 ∷ []) (1 ∷ 2 ∷ 0 ∷ []) (pos 5 ∷ negsuc 5 ∷ pos (2 ^ 40) ∷ []) false (codes "mine")

pub triangle_counts : triangle.m ≡ 6
triangle_counts = refl

pub triangle_lengths : map (λ r. r.len) triangle.records ≡ pos 5 ∷ pos 5 ∷ negsuc 5 ∷ negsuc 5 ∷ pos (2 ^ 40) ∷ pos (2 ^ 40) ∷ []
triangle_lengths = refl

pub triangle_lists : map (λ l. l.tip) (chain_of triangle 0) ≡ 2 ∷ 1 ∷ []
unfolding numbers_from
triangle_lists = refl
