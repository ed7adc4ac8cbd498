-- The arcs of a vector by edges, those of the last edge first.
use Rattle.std.proofs.Common.{◌≡◌, Option, Some, cond, ℕ, ◌+◌, ◌-◌, ◌<◌, List, [], ◌∷◌, ◌++◌, reverse, take, ap, ◌∙◌, arith, append-nil, rules}
use Rattle.std.proofs.lemmas.List.{reverse-append, take_more}
use Rattle.std.specs.Cmp.Lexicographic.{bytes_decides}
use Rattle.std.specs.List.{flat_map, slice_get}
use Rattle.std.proofs.lemmas.Grind.{flat_map-append}
use Rattle.std.proofs.lemmas.Option.{get_or_from_slice_get, slice_get_within}
use Rattle.std.proofs.lemmas.Bool.{cases_Bool}
use Rattle.sgb_gen.specs.LocalLists.{LocalArc}
use Rattle.sgb_moves.specs.VectorMoves.{same_vector}
use Rattle.sgb_gen.specs.inner.LocalBoards.{edge_arcs}

-- the arcs by one edge: both of them are the same where it leads to x itself
pub edge_turned : (x : List ℕ) (l : ℕ) (o : Option (List ℕ)) → reverse (edge_arcs x l o) ≡ edge_arcs x l o
edge_turned x l o = search (rules, cases_Bool, cond, reverse, same_vector, bytes_decides, edge_arcs)

-- the arcs by the last of some edges, and those by the others
pub last_edge : (x : List ℕ) (dest : ℕ × ℕ → Option (List ℕ)) (ss : List (ℕ × ℕ)) (k : ℕ) (s : ℕ × ℕ) → 0 < k → slice_get ss (k - 1) ≡ Some s
    → reverse (flat_map (λ r. edge_arcs x r.1 (dest r)) (take k ss)) ≡ edge_arcs x s.1 (dest s) ++ reverse (flat_map (λ r. edge_arcs x r.1 (dest r)) (take (k - 1) ss))
last_edge x dest ss k s some at =
    let f : ℕ × ℕ → List LocalArc = λ r. edge_arcs x r.1 (dest r) in
    let others = take (k - 1) ss in
    ap (λ n. reverse (flat_map f (take n ss))) {x = k} {y = k - 1 + 1} (omega (arith, some))
    ∙ ap (λ us. reverse (flat_map f us)) (take_more ss (k - 1) s (slice_get_within ss (k - 1) s at) ∙ ap (λ u. others ++ u ∷ []) (get_or_from_slice_get ss (k - 1) s s at))
    ∙ ap reverse (flat_map-append f others (s ∷ []))
    ∙ reverse-append (flat_map f others) (f s ++ [])
    ∙ ap (λ own. own ++ reverse (flat_map f others)) (ap reverse (append-nil (f s)) ∙ edge_turned x s.1 (dest s))
