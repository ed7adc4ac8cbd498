-- The graphs of board, simplex and subsets as graphs of vectors: what all three have.
use Rattle.std.proofs.Common.{◌≡◌, ◌∙◌, ℕ, List, length, Some, Result, Ok, Err, sym, subst}
use Rattle.std.specs.Prelude.{OnOk}
use Rattle.std.specs.List.{All, Contains, slice_get}
use Rattle.std.proofs.lemmas.List.Elements.{All-weaker}
use Rattle.sgb_vec.specs.Lexicographic.{IsRising}
use Rattle.sgb_vec.specs.declared.panics.Panic.{Panic}
use Rattle.sgb_vec.proofs.FamilyLaws.{box_vectors_rise, length-box_member, length-sum_member, sum_vectors_rise}
use Rattle.sgb_gen.specs.Boards.{BoardData, board_vector_graph}
use Rattle.sgb_gen.specs.Generators.{vector_graph_of}
use Rattle.sgb_gen.specs.LocalLists.{LocalArc, list_in}
use Rattle.sgb_gen.specs.Simplexes.{SimplexData, moves_of_simplex, simplex_vector_graph}
use Rattle.sgb_gen.specs.Subsets.{SubsetsData, subsets_vector_graph}
use Rattle.sgb_gen.specs.VectorGraphs.{HasEnds, VectorGraph, vertex_among}
use Rattle.sgb_gen.specs.declared.locals.Local.{Local}
use Rattle.sgb_gen.specs.declared.locals.Local.TheVariants as local
use Rattle.sgb_gen.proofs.ListsOfBoards.{ends_on_board}
use Rattle.sgb_gen.proofs.MoveLists.{tips_of_list}
use Rattle.sgb_gen.proofs.RisingVectors.{vertex_in_rising}
use Rattle.sgb_gen.proofs.SimplexLists.{ends_in_simplex}
use Rattle.sgb_gen.proofs.SubsetsLists.{moves_have_ends}

-- the vectors rise and have as many entries each, and the moves have their ends among them
pub record IsOfFamily (g : VectorGraph) : Type 0 where
  pub rising : IsRising g.vectors
  pub width : ℕ
  pub wide : (v : List ℕ) → Contains g.vectors v → length v ≡ width
  pub ends : All (HasEnds g.vectors) g.moves

pub of_board : (b : BoardData) → IsOfFamily (board_vector_graph b)
of_board b = record { rising = box_vectors_rise b.sizes; width = length b.sizes; wide = length-box_member b.sizes; ends = ends_on_board b }

pub of_simplex : (s : SimplexData) → IsOfFamily (simplex_vector_graph s)
unfolding moves_of_simplex
of_simplex s = record { rising = sum_vectors_rise s.sum; width = length s.sum.bounds; wide = length-sum_member s.sum; ends = ends_in_simplex s }

pub of_subsets : (s : SubsetsData) → IsOfFamily (subsets_vector_graph s)
of_subsets s = record { rising = sum_vectors_rise s.sum; width = length s.sum.bounds; wide = length-sum_member s.sum; ends = moves_have_ends s }

-- of any generator
pub of_local : (l : Local) → IsOfFamily (vector_graph_of l)
of_local (local.Board b) = of_board b
of_local (local.Simplex s) = of_simplex s
of_local (local.Subsets s) = of_subsets s

module _ (g : VectorGraph) (is : IsOfFamily g) where
  -- where the list of x was put, its arcs lead to vectors
  pub tips_put : {T : Type 0} (r : Result T Panic) (x : List ℕ) (arcs : List LocalArc) → Contains g.vectors x → OnOk r (arcs ≡ list_in g x) → OnOk r (All (λ (a : LocalArc). Contains g.vectors a.tip) arcs)
  tips_put (Ok y) x arcs member put =
      subst (All (λ (a : LocalArc). Contains g.vectors a.tip)) (sym put) (tips_of_list g.vectors g.directed x g.moves is.rising is.ends member)
  tips_put (Err e) x arcs member put = tt

  -- as wide as x
  pub widths_put : {T : Type 0} (r : Result T Panic) (x : List ℕ) (arcs : List LocalArc) → Contains g.vectors x → OnOk r (arcs ≡ list_in g x) → OnOk r (All (λ (a : LocalArc). length a.tip ≡ length x) arcs)
  widths_put (Ok y) x arcs member put =
      All-weaker (λ (a : LocalArc). Contains g.vectors a.tip) (λ (a : LocalArc). length a.tip ≡ length x)
      (λ a there. is.wide a.tip there ∙ sym (is.wide x member)) arcs
      (subst (All (λ (a : LocalArc). Contains g.vectors a.tip)) (sym put) (tips_of_list g.vectors g.directed x g.moves is.rising is.ends member))
  widths_put (Err e) x arcs member put = tt

  -- the place of a vector is its vertex
  pub place_is_vertex : (place : ℕ) (x : List ℕ) → slice_get g.vectors place ≡ Some x → place ≡ vertex_among g.vectors x
  place_is_vertex place x at = sym (vertex_in_rising g.vectors place x is.rising at)
