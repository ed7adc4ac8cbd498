-- The graphs of subsets [GB_BASIC, subsets].
use Rattle.std.specs.Prelude.{ℕ, ◌+◌, ◌/◌, ◌%◌, ◌^◌, ◌==◌, min, nat_lt, ℤ, Bool, ◌&&◌, List, [], ◌∷◌, ◌++◌, length, map, filter, take, slice_index_or, Result, Ok, codes}
use Rattle.std.specs.Fmt.{signed_decimal}
use Rattle.std.specs.List.{flat_map, range_with_len}
use Rattle.sgb_vec.specs.Results.{and_then}
use Rattle.sgb_vec.specs.Bounds.{simplex_of}
use Rattle.sgb_vec.specs.Sums.{BoundedSum, bounded_sums, sum_of}
use Rattle.sgb_vec.specs.declared.panics.Panic.{Panic}
use Rattle.sgb_graph.specs.Descriptions.{Description}
use Rattle.sgb_graph.specs.IdTexts.{flag_text, hexadecimal_text}
use Rattle.sgb_gen.specs.declared.params.SubsetsParams.{SubsetsParams}
use Rattle.sgb_moves.specs.VectorMoves.{Move}
use Rattle.sgb_gen.specs.VectorGraphs.{VectorGraph, call_text, described_by}

-- accepted subsets: n and n0 to n4 as the official name has them, their sum and bounds, size_bits and the flag
pub record SubsetsData : Type 0 where
  pub params : List ℤ
  pub sum : BoundedSum
  pub size_bits : ℕ
  pub directed : Bool

-- the subsets of these parameters; or, in order, a negative n, too many dimensions, n above 1,000,000,000, too many vectors
abbrev pub accepted_subsets : SubsetsParams → Result SubsetsData Panic
accepted_subsets p = and_then (simplex_of p.n p.n0 p.n1 p.n2 p.n3 p.n4) (λ shape.
    and_then (sum_of p.n shape.sizes) (λ s.
    Ok (record { params = shape.params; sum = s; size_bits = p.size_bits; directed = p.directed })))

-- how many elements two multisets have in common: the sum of the lesser entries
abbrev pub common_size : List ℕ → List ℕ → ℕ
common_size (x ∷ u) (y ∷ v) = min x y + common_size u v
common_size _ _ = 0

-- bit c of size_bits, which has 128 bits, is 1
abbrev pub is_wanted_size : ℕ → ℕ → Bool
is_wanted_size size_bits c = nat_lt c 128 && (size_bits / 2 ^ c % 2 == 1)

-- the moves to the i-th vector: from each vector up to it, itself too, with which it has a wanted size in common
abbrev pub moves_to_place : ℕ → List (List ℕ) → ℕ → List Move
moves_to_place size_bits vectors i = let v = slice_index_or vectors i [] in
    map (λ u. record { from = u; to = v; len = 1 })
    (filter (λ u. is_wanted_size size_bits (common_size u v)) (take (i + 1) vectors))

-- the id of accepted subsets: subsets(n,n0,n1,n2,n3,n4,0xH,directed), where 0xH is size_bits
unfoldable pub subsets_id : SubsetsData → List ℕ
subsets_id s = call_text (codes "subsets") (map signed_decimal s.params ++ (hexadecimal_text s.size_bits ∷ flag_text s.directed ∷ []))

-- the vertices of accepted subsets: the vectors of their bounded sum
abbrev pub subsets_vectors : SubsetsData → List (List ℕ)
subsets_vectors s = bounded_sums s.sum.total s.sum.bounds

-- the moves of accepted subsets: for each vertex in order those to it
unfoldable pub moves_of_subsets : SubsetsData → List Move
moves_of_subsets s = let vectors = subsets_vectors s in
    flat_map (moves_to_place s.size_bits vectors) (range_with_len 0 (length vectors))

-- the graph of accepted subsets, whose vertices are vectors
abbrev pub subsets_vector_graph : SubsetsData → VectorGraph
subsets_vector_graph s = record { id = subsets_id s; directed = s.directed; vectors = subsets_vectors s; moves = moves_of_subsets s }

-- the graph of subsets(n,n0,n1,n2,n3,n4,size_bits,directed), or why it is refused
abbrev pub subsets : SubsetsParams → Result Description Panic
subsets p = and_then (accepted_subsets p) (λ s. Ok (described_by (subsets_vector_graph s)))
