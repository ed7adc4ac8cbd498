-- A walk through the lists or the names of so many vertices.
use Rattle.std.proofs.Common.{◌≡◌, ℕ, ◌+◌, ◌<◌, ◌≤◌, List, [], ◌∷◌, ◌++◌, length, map, ap, arith}
use Rattle.std.specs.List.{flat_map}
use Rattle.sgb_vec.proofs.Lists.{range-first, range-none}
use Rattle.sgb_arrays.specs.Lists.{starts_from}
use Rattle.sgb_arrays.specs.Runs.{part_starts, parts_of}
use Rattle.sgb_arrays.specs.inner.PartsLeft.{parts_left, starts_left}

module _ {X : Type 0} (parts : ℕ → List X) (n : ℕ) where
  -- all of them
  pub parts_left-whole : parts_left parts n 0 ≡ parts_of parts 0 n
  unfolding parts_left parts_of
  parts_left-whole = grind arith

  pub starts_left-whole : starts_left parts n 0 0 ≡ part_starts parts 0 n
  unfolding starts_left part_starts
  starts_left-whole = grind arith

  -- that of a vertex comes before those of the vertices after it
  pub parts_left-first : (v : ℕ) → v < n → parts_left parts n v ≡ parts v ++ parts_left parts n (v + 1)
  unfolding parts_left
  parts_left-first v within = ap (flat_map parts) (range-first v n within)

  pub starts_left-first : (v at : ℕ) → v < n → starts_left parts n v at ≡ at ∷ starts_left parts n (v + 1) (at + length (parts v))
  unfolding starts_left
  starts_left-first v at within = ap (λ vs. starts_from at (map (λ u. length (parts u)) vs)) (range-first v n within)

  -- none come after the last vertex
  pub parts_left-none : (v : ℕ) → n ≤ v → parts_left parts n v ≡ []
  unfolding parts_left
  parts_left-none v past = ap (flat_map parts) (range-none v n past)

  pub starts_left-none : (v at : ℕ) → n ≤ v → starts_left parts n v at ≡ at ∷ []
  unfolding starts_left
  starts_left-none v at past = ap (λ vs. starts_from at (map (λ u. length (parts u)) vs)) (range-none v n past)
