-- A run of a graph's vertices, so many one after another from the first one on, as arrays: their lists ("compressed sparse
-- rows"), and their names. All vertices are the run from 0 on of as many as there are.
use Rattle.std.specs.Prelude.{◌≡◌, ◌⊎◌, ◌≤◌, ◌+◌, ℕ, ℤ, List, length, map}
use Rattle.std.specs.List.{flat_map, range_with_len}
use Rattle.sgb_graph.specs.Graphs.{GraphData, chain_of}
use Rattle.sgb_graph.specs.Vertices.{name_at}
use Rattle.sgb_arrays.specs.Lists.{starts_from}
use Rattle.sgb_arrays.specs.declared.refusals.Wrong.{Wrong}
use Rattle.sgb_arrays.specs.declared.refusals.Wrong.TheVariants as wrong

-- the vertices of the run are vertices of the graph
abbrev pub IsThere : GraphData → ℕ → ℕ → Type 0
IsThere g first count = first + count ≤ length g.vertices

-- what a graph has for each vertex of the run, one after another
unfoldable pub parts_of : {X : Type 0} → (ℕ → List X) → ℕ → ℕ → List X
parts_of parts first count = flat_map parts (range_with_len first count)

-- where the part of each vertex starts among what a graph has for a run, and then where the last one ends
unfoldable pub part_starts : {X : Type 0} → (ℕ → List X) → ℕ → ℕ → List ℕ
part_starts parts first count = starts_from 0 (map (λ v. length (parts v)) (range_with_len first count))

-- arrays that the lists of the run fit into: a start more than vertices, and as many tips and lengths as arcs
pub record HaveRowLengths (g : GraphData) (first count : ℕ) (starts tips : List ℕ) (lengths : List ℤ) : Type 0 where
  pub starts_fit : length starts ≡ count + 1
  pub tips_fit : length tips ≡ length (parts_of (chain_of g) first count)
  pub lengths_fit : length lengths ≡ length (parts_of (chain_of g) first count)

-- arrays that hold the lists of the run: where each starts, where each arc leads, and its length
pub record AreRows (g : GraphData) (first count : ℕ) (starts tips : List ℕ) (lengths : List ℤ) : Type 0 where
  pub starts_are : starts ≡ part_starts (chain_of g) first count
  pub tips_are : tips ≡ map (λ l. l.tip) (parts_of (chain_of g) first count)
  pub lengths_are : lengths ≡ map (λ l. l.len) (parts_of (chain_of g) first count)

-- arrays that the lists of the run fit into without the lengths of the arcs
pub record HaveTipLengths (g : GraphData) (first count : ℕ) (starts tips : List ℕ) : Type 0 where
  pub starts_fit : length starts ≡ count + 1
  pub tips_fit : length tips ≡ length (parts_of (chain_of g) first count)

-- arrays that hold the lists of the run without the lengths of the arcs: where each list starts, and where each arc leads
pub record AreTips (g : GraphData) (first count : ℕ) (starts tips : List ℕ) : Type 0 where
  pub starts_are : starts ≡ part_starts (chain_of g) first count
  pub tips_are : tips ≡ map (λ l. l.tip) (parts_of (chain_of g) first count)

-- arrays that the names of the run fit into: a start more than vertices, and as many bytes as the names have
pub record HaveNameLengths (g : GraphData) (first count : ℕ) (starts bytes : List ℕ) : Type 0 where
  pub starts_fit : length starts ≡ count + 1
  pub bytes_fit : length bytes ≡ length (parts_of (name_at g) first count)

-- arrays that hold the names of the run, and where each starts
pub record AreNames (g : GraphData) (first count : ℕ) (starts bytes : List ℕ) : Type 0 where
  pub starts_are : starts ≡ part_starts (name_at g) first count
  pub bytes_are : bytes ≡ parts_of (name_at g) first count

-- why the lists or the names of a run are not had: some of its vertices are none of the graph, or out of memory
abbrev pub IsRunRefusal : GraphData → ℕ → ℕ → Wrong → Type 0
IsRunRefusal g first count why = ((why ≡ wrong.Vertices) × (IsThere g first count → ⊥)) ⊎ (why ≡ wrong.NoRoom)

-- why arrays of a run are not filled: vertices that are none of the graph; else arrays that do not fit, or want of memory
abbrev pub IsFillRefusal : GraphData → ℕ → ℕ → (fits memory : Type 0) → Wrong → Type 0
IsFillRefusal g first count fits memory wrong.Vertices = IsThere g first count → ⊥
IsFillRefusal g first count fits memory wrong.Length = IsThere g first count × (fits → ⊥)
IsFillRefusal g first count fits memory wrong.NoRoom = IsThere g first count × memory
IsFillRefusal g first count fits memory _ = ⊥

-- why the size of a run is not told: vertices that are none of the graph; else want of memory, where this takes some
abbrev pub IsSizeRefusal : GraphData → ℕ → ℕ → (memory : Type 0) → Wrong → Type 0
IsSizeRefusal g first count = IsFillRefusal g first count (Unit {0})
