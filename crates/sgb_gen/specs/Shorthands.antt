-- GraphBase's short names of some boards and subsets, as the parameters that they stand for [GB_BASIC]. What is said of each
-- holds for n of 1 and more; for others the name is that of whatever graph its parameters make, as the board of 8 by 8.
use Rattle.std.specs.Prelude.{ℤ, pos, negsuc, ◌-ℤ◌, Bool, true, false}
use Rattle.sgb_gen.specs.declared.params.BoardParams.{BoardParams}
use Rattle.sgb_gen.specs.declared.params.SubsetsParams.{SubsetsParams}

-- a board of one dimension, with n places
abbrev pub line : ℤ → ℤ → ℤ → Bool → BoardParams
line n piece wrap directed = record { n1 = n; n2 = pos 0; n3 = pos 0; n4 = pos 0; piece = piece; wrap = wrap; directed = directed }

-- complete(n): an edge between any two vertices
abbrev pub complete : ℤ → BoardParams
complete n = line n (negsuc 0) (pos 0) false

-- transitive(n): an arc from each vertex to each later one
abbrev pub transitive : ℤ → BoardParams
transitive n = line n (negsuc 0) (pos 0) true

-- empty(n): no arcs
abbrev pub empty : ℤ → BoardParams
empty n = line n (pos 2) (pos 0) false

-- circuit(n): an undirected cycle
abbrev pub circuit : ℤ → BoardParams
circuit n = line n (pos 1) (pos 1) false

-- cycle(n): a directed cycle
abbrev pub cycle : ℤ → BoardParams
cycle n = line n (pos 1) (pos 1) true

-- disjoint_subsets(n,k): the subsets of k of n elements, with an edge between any two that are disjoint
abbrev pub disjoint_subsets : ℤ → ℤ → SubsetsParams
disjoint_subsets n k = record { n = k; n0 = pos 1; n1 = pos 1 -ℤ n; n2 = pos 0; n3 = pos 0; n4 = pos 0; size_bits = 1; directed = false }

-- petersen(): the Petersen graph
abbrev pub petersen : SubsetsParams
petersen = disjoint_subsets (pos 5) (pos 2)
