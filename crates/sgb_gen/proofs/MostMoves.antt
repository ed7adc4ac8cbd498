-- How many moves a board of few displacements has at most, with none of them made: by places, lengths and displacements.
use Rattle.std.proofs.Common.{ℕ, ◌*◌, ◌<◌, ◌≤◌, ◌^◌, ℤ, pos, negsuc, nat_abs, List, length, get_or, sym, ap, subst, arith}
use Rattle.std.specs.List.{All, flat_map}
use Rattle.std.proofs.lemmas.List.{length-map}
use Rattle.std.proofs.lemmas.List.Concat.{length-flat_map}
use Rattle.std.proofs.lemmas.List.Sums.{sum_by-le}
use Rattle.std.proofs.lemmas.Nat.{mul-le}
use Rattle.sgb_vec.specs.Boxes.{box, product_of}
use Rattle.sgb_vec.specs.Limits.{most_vertices}
use Rattle.sgb_vec.proofs.BoxPlaces.{length-box}
use Rattle.sgb_graph.specs.Made.{graph_described}
use Rattle.sgb_gen.specs.Boards.{BoardData, board_vector_graph, moves_of_board}
use Rattle.sgb_gen.specs.VectorGraphs.{described_by}
use Rattle.sgb_moves.specs.Moves.{Side, moves_from, places_count, sides_of}
use Rattle.sgb_moves.specs.inner.EntryBounds.{displacements_within}
use Rattle.sgb_moves.specs.inner.Moves.{longest_move}
use Rattle.sgb_gen.specs.inner.LocalBoards.{move_arc, moves_by}
use Rattle.sgb_gen.proofs.BoardCountsBoards.{arcs-few}
use Rattle.sgb_gen.proofs.BoundedMoves.{bounds_of, moves_within}
use Rattle.sgb_gen.proofs.MostLengths.{within_longest}
use Rattle.sgb_gen.proofs.Reaches.{sizes_of_sides}

-- lists of no more than m elements each
few_each : {X Y : Type 0} (f : X → List Y) (m : ℕ) (xs : List X) → All (λ x. length (f x) ≤ m) xs → length (flat_map f xs) ≤ length xs * m
few_each f m xs few = omega (arith, length-flat_map f xs, sum_by-le (λ x. length (f x)) m xs few)

longest_few : (sides : List Side) (piece : ℤ) (n : ℕ) → 0 < n → places_count sides ≤ n → longest_move sides piece ≤ n
longest_few sides (pos p) n some few = some
longest_few sides (negsuc p) n some few = few

module _ (b : BoardData) (n : ℕ) (few : product_of b.sizes ≤ n) (some : 0 < n) where
  -- from each place a move of each length
  moves_by_few : (t : List ℤ) → length (moves_by (sides_of b.sizes b.wrap) b.piece (box b.sizes) t) ≤ n * n
  moves_by_few t =
      let sides = sides_of b.sizes b.wrap in
      let longest : longest_move sides b.piece ≤ n = longest_few sides b.piece n some (subst (λ ns. product_of ns ≤ n) (sym (sizes_of_sides 0 b.sizes b.wrap)) few) in
      let each : All (λ y. length (moves_from sides b.piece y t) ≤ n) (box b.sizes) =
      λ i o within. omega (arith, within_longest b (get_or (box b.sizes) i o) t, longest, length-map (moves_from sides b.piece (get_or (box b.sizes) i o) t) move_arc) in
      omega (arith, few_each (λ y. moves_from sides b.piece y t) n (box b.sizes) each, mul-le (length (box b.sizes)) n n n (omega (arith, length-box b.sizes, few)) (omega arith))

  moves_few : (most : ℕ) → length (displacements_within (nat_abs b.piece) (bounds_of b)) ≤ most → length (moves_of_board b) ≤ most * (n * n)
  moves_few most few_ts =
      let sides = sides_of b.sizes b.wrap in
      let ts = displacements_within (nat_abs b.piece) (bounds_of b) in
      omega (arith, ap length (moves_within b), few_each (moves_by sides b.piece (box b.sizes)) (n * n) ts (λ i o within. moves_by_few (get_or ts i o)), mul-le (length ts) (n * n) most (n * n) few_ts (omega arith))

-- so 128 bits hold the number of arcs
pub arcs_countable : (b : BoardData) → product_of b.sizes ≤ most_vertices → length (displacements_within (nat_abs b.piece) (bounds_of b)) ≤ 49152
    → (graph_described (described_by (board_vector_graph b))).m < 2 ^ 128
arcs_countable b few few_ts = omega (arith, arcs-few b, moves_few b most_vertices few (omega arith) 49152 few_ts)
