-- The integers of a generator's vertices: the first entries of their vectors.
use Rattle.std.proofs.Common.{◌≡◌, ◌∙◌, ℕ, zero, suc, ◌+◌, ◌-◌, ◌≤◌, ◌<◌, ℤ, pos, List, [], ◌∷◌, drop, length, map, take, Some, refl, sym, ap, ap₂, arith}
use Rattle.std.specs.Prelude.{slice_get, slice_index, zip}
use Rattle.std.specs.List.{enumerate_from, slice_index_or}
use Rattle.std.proofs.lemmas.List.{drop-map, take-map}
use Rattle.sgb_vec.specs.Names.{name_of_vector}
use Rattle.sgb_graph.specs.Made.{graph_described}
use Rattle.sgb_graph.specs.Sound.{vertex_kinds}
use Rattle.sgb_graph.specs.declared.fields.Kind.TheVariants.{I}
use Rattle.sgb_graph.specs.declared.fields.Util.TheVariants.{Nothing}
use Rattle.sgb_gen.specs.VectorGraphs.{VectorGraph, described_by, family_graph, fields_of_vector, kinds_of_family}
use Rattle.sgb_arrays.specs.Fields.{int_of, ints_of}
use Rattle.sgb_arrays.specs.inner.Fields.{int_at}
use Rattle.sgb_arrays.specs.inner.Kinds.{HoldIntsAt}

-- the fields that hold integers
int_fields : (vectors : List (List ℕ)) (field : ℕ) → slice_get (vertex_kinds (kinds_of_family vectors)) field ≡ Some I → (3 ≤ field) × (field < 6)
int_fields (v ∷ vectors) zero e = absurd cc
int_fields (v ∷ vectors) (suc zero) e = absurd cc
int_fields (v ∷ vectors) (suc (suc zero)) e = absurd cc
int_fields (v ∷ vectors) (suc (suc (suc zero))) e = (omega arith, omega arith)
int_fields (v ∷ vectors) (suc (suc (suc (suc zero)))) e = (omega arith, omega arith)
int_fields (v ∷ vectors) (suc (suc (suc (suc (suc zero))))) e = (omega arith, omega arith)
int_fields (v ∷ vectors) (suc (suc (suc (suc (suc (suc field)))))) e = absurd cc
int_fields [] zero e = absurd cc
int_fields [] (suc zero) e = absurd cc
int_fields [] (suc (suc zero)) e = absurd cc
int_fields [] (suc (suc (suc zero))) e = absurd cc
int_fields [] (suc (suc (suc (suc zero)))) e = absurd cc
int_fields [] (suc (suc (suc (suc (suc zero))))) e = absurd cc
int_fields [] (suc (suc (suc (suc (suc (suc field)))))) e = absurd cc

-- hold the entries
entry_at : (x : List ℕ) (field : ℕ) → 3 ≤ field → field < 6 → int_of (slice_index_or (fields_of_vector x) field Nothing) ≡ pos (slice_index x (field - 3))
entry_at x (suc (suc (suc zero))) low high = refl
entry_at x (suc (suc (suc (suc zero)))) low high = refl
entry_at x (suc (suc (suc (suc (suc zero))))) low high = refl
entry_at x (suc (suc (suc (suc (suc (suc field)))))) low high = absurd (omega (arith, high))
entry_at x _ low high = absurd (omega (arith, low))

-- what is read of things that are made of elements with their numbers
parts_read : {A X Y : Type 0} (part : X → Y) (make : ℕ × A → X) (said : A → Y) (k : ℕ) (xs : List A) → ((k : ℕ) (a : A) → part (make (k, a)) ≡ said a)
    → map part (map make (enumerate_from k xs)) ≡ map said xs
parts_read part make said k [] same = refl
parts_read part make said k (a ∷ xs) same = grind (arith, same, parts_read part make said (k + 1) xs same)

module _ (field : ℕ) (low : 3 ≤ field) (high : field < 6) where
  pairs_read : (vectors : List (List ℕ)) → map (λ q. int_of (slice_index_or q.1 field Nothing)) (zip (map name_of_vector vectors) (map fields_of_vector vectors)) ≡ map (λ x. pos (slice_index x (field - 3))) vectors
  pairs_read [] = refl
  pairs_read (x ∷ vectors) = ap₂ (λ i is. i ∷ is) (entry_at x field low high) (pairs_read vectors)

  vertices_read : (g : VectorGraph) → map (int_at field) (graph_described (described_by g)).vertices ≡ map (λ x. pos (slice_index x (field - 3))) g.vectors
  unfolding family_graph
  vertices_read g =
      parts_read (int_at field) _ (λ q. int_of (slice_index_or q.1 field Nothing)) 0 (zip (map name_of_vector g.vectors) (map fields_of_vector g.vectors)) (λ k q. refl) ∙ pairs_read g.vectors

-- the integers of a run of vertices
pub local_ints : (g : VectorGraph) (field first count : ℕ) → HoldIntsAt (graph_described (described_by g)).kinds field
    → map (λ x. pos (slice_index x (field - 3))) (take count (drop first g.vectors)) ≡ ints_of (graph_described (described_by g)) field first count
unfolding ints_of family_graph
local_ints g field first count holds =
    let (low, high) = int_fields g.vectors field holds in
    let read = vertices_read field low high g in
    let entry : List ℕ → ℤ = λ x. pos (slice_index x (field - 3)) in
    let vertices = (graph_described (described_by g)).vertices in
    sym (take-map entry count (drop first g.vectors)) ∙ ap (take count) (sym (drop-map entry first g.vectors)) ∙ ap (λ is. take count (drop first is)) (sym read)
    ∙ ap (take count) (drop-map (int_at field) first vertices) ∙ take-map (int_at field) count (drop first vertices)
