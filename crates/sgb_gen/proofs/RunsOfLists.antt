-- The list of a board's vertex, run by run.
use Rattle.std.proofs.Common.{arith, ◌≡◌, ℕ, ◌+◌, ℤ, nat_abs, true, false, Bool, List, [], ◌∷◌, ◌++◌, length, reverse, take, sym, ap, subst, append-nil}
use Rattle.std.specs.List.{All, slice_get}
use Rattle.std.specs.Prelude.{Some}
use Rattle.std.proofs.lemmas.Grind.{flat_map-append}
use Rattle.std.proofs.lemmas.List.{reverse-append, reverse-reverse, take_more}
use Rattle.std.proofs.lemmas.Option.{get_or_from_slice_get, slice_get_within}
use Rattle.sgb_vec.specs.Boxes.{box}
use Rattle.sgb_vec.specs.Lexicographic.{IsBelow}
use Rattle.sgb_vec.proofs.BoxPlaces.{Contains-from_IsBelow}
use Rattle.sgb_gen.specs.Boards.{BoardData}
use Rattle.sgb_moves.specs.Moves.{opposite, sides_of}
use Rattle.sgb_gen.specs.inner.LocalBoards.{arcs_onward, moves_by}
use Rattle.sgb_moves.specs.inner.Moves.{leads_onward}
use Rattle.sgb_gen.specs.inner.StraightLists.{IsRun, arcs_back, arcs_by_all, arcs_from}
use Rattle.sgb_moves.specs.inner.EntryBounds.{displacements_within}
use Rattle.sgb_gen.proofs.BoundedMoves.{bounds_of, length-entry_bounds}
use Rattle.sgb_gen.proofs.DisplacementLengths.{displacement_lengths}
use Rattle.sgb_gen.proofs.ListsOfBoards.{directed_onward}
use Rattle.sgb_gen.proofs.OnwardStarts.{onward_in_order}

-- the arcs by the last of some displacements stand first
pub last_first : (b : BoardData) (x : List ℕ) (ts : List (List ℤ)) (t : List ℤ)
    → arcs_by_all b x (ts ++ t ∷ []) ≡ reverse (arcs_onward b.directed x (moves_by (sides_of b.sizes b.wrap) b.piece (box b.sizes) t)) ++ arcs_by_all b x ts
last_first b x ts t = grind (arith, flat_map-append, append-nil, reverse-append)

-- where there are arcs alone, those of a displacement are those ahead, the longest first; and there are none back
pub directed_run : (b : BoardData) (x : List ℕ) (t : List ℤ) → b.directed ≡ true → IsBelow x b.sizes
    → reverse (arcs_onward b.directed x (moves_by (sides_of b.sizes b.wrap) b.piece (box b.sizes) t)) ≡ reverse (arcs_from b x t) ++ arcs_back b x (opposite t)
directed_run b x t directed below =
    cc (directed_onward b x t below (sym directed), append-nil (reverse (arcs_from b x t)), directed)

-- where there are edges, both
pub edges_run : (b : BoardData) (x : List ℕ) (t : List ℤ) → b.directed ≡ false
    → reverse (arcs_onward false x (moves_by (sides_of b.sizes b.wrap) b.piece (box b.sizes) t)) ≡ reverse (arcs_from b x t) ++ arcs_from b x (opposite t)
    → reverse (arcs_onward b.directed x (moves_by (sides_of b.sizes b.wrap) b.piece (box b.sizes) t)) ≡ reverse (arcs_from b x t) ++ arcs_back b x (opposite t)
edges_run b x t directed both =
    cc (directed, both)

pub edges_in_order : (b : BoardData) (x : List ℕ) (t : List ℤ) → IsBelow x b.sizes → length t ≡ length b.sizes → leads_onward b.wrap 0 t ≡ true
    → reverse (arcs_onward false x (moves_by (sides_of b.sizes b.wrap) b.piece (box b.sizes) t)) ≡ reverse (arcs_from b x t) ++ arcs_from b x (opposite t)
edges_in_order b x t below long onward = simp (onward_in_order, Contains-from_IsBelow, reverse-append, reverse, reverse-reverse)

-- where a displacement leads onward, its arcs are those ahead, the longest first, and then those back
pub onward_run : (b : BoardData) (x : List ℕ) (t : List ℤ) (d : Bool) → b.directed ≡ d → IsBelow x b.sizes → length t ≡ length b.sizes → leads_onward b.wrap 0 t ≡ true
    → reverse (arcs_onward b.directed x (moves_by (sides_of b.sizes b.wrap) b.piece (box b.sizes) t)) ≡ reverse (arcs_from b x t) ++ arcs_back b x (opposite t)
onward_run b x t d directed below long onward = grind (arith, directed_run, edges_run, edges_in_order)

-- one of them has what all have
pub at_has : (P : List ℤ → Type 0) (ts : List (List ℤ)) (k : ℕ) (t : List ℤ) → All P ts → slice_get ts k ≡ Some t → P t
at_has P ts k t all at = subst P (get_or_from_slice_get ts k t t at) (all k t (slice_get_within ts k t at))

-- a displacement of a board has an entry for each side
pub widths_in_table : (b : BoardData) (ts : List (List ℤ)) → ts ≡ displacements_within (nat_abs b.piece) (bounds_of b) → All (λ u. length u ≡ length b.sizes) ts
widths_in_table b ts is = grind (arith, bounds_of, length-entry_bounds, displacement_lengths)

pub width_in_table : (b : BoardData) (ts : List (List ℤ)) (k : ℕ) (t : List ℤ) → ts ≡ displacements_within (nat_abs b.piece) (bounds_of b)
    → slice_get ts k ≡ Some t → length t ≡ length b.sizes
width_in_table b ts k t is at = at_has (λ u. length u ≡ length b.sizes) ts k t (widths_in_table b ts is) at

-- none of them have no arcs
pub none_first : (b : BoardData) (x : List ℕ) (ts : List (List ℤ)) (k : ℕ) → k ≡ 0 → arcs_by_all b x (take k ts) ≡ []
none_first b x ts k none = ap (λ (n : ℕ). arcs_by_all b x (take n ts)) none
