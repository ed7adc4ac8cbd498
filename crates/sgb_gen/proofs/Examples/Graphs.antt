-- The graph that a `.gb` file of complete(2) holds is the graph of its description.
use Rattle.std.specs.Prelude.{◌≡◌, ◌<◌, ℕ, zero, suc, pos, true, false, List, [], ◌∷◌, length, replicate, Some, None, IfOk, codes, refl}
use Rattle.std.proofs.Common.{arith}
use Rattle.std.proofs.lemmas.List.Elements.{All-from_recursion}
use Rattle.std.specs.Fmt.{digits}
use Rattle.sgb_vec.specs.Boxes.{box}
use Rattle.sgb_vec.specs.Sizes.{repeated}
use Rattle.sgb_vec.specs.Names.{name_of_vector}
use Rattle.sgb_graph.specs.Graphs.{GraphData, chain_of, ends_from, ends_of, numbers_from}
use Rattle.sgb_graph.specs.Events.{Event, HasArcsOf, HasEndsBelow, list_from, list_of}
use Rattle.sgb_graph.specs.Descriptions.{IsGraphOf}
use Rattle.sgb_graph.specs.declared.fields.Kind.TheVariants.{Z, I}
use Rattle.sgb_graph.specs.declared.fields.Ref.TheVariants.{At}
use Rattle.sgb_graph.specs.declared.fields.Util.{Util}
use Rattle.sgb_graph.specs.declared.fields.Util.TheVariants.{Nothing, Int}
use Rattle.sgb_gen.specs.VectorGraphs.{family_graph}
use Rattle.sgb_moves.specs.Displacements.{displacements, vectors_of_norm}
use Rattle.sgb_moves.specs.Moves.{board_moves}
use Rattle.sgb_gen.specs.Boards.{board, board_id}
use Rattle.sgb_gen.specs.Shorthands.{complete}

-- the fields of the vertex of a coordinate
abbrev fields : ℕ → List Util
fields x = Nothing ∷ Nothing ∷ Nothing ∷ Int (pos x) ∷ Int (pos 0) ∷ Int (pos 0) ∷ []

-- two vertices with an arc from each to the other
abbrev pair : GraphData
pair = record {
  id = codes "board(2,0,0,0,-1,0,0)";
  m = 2;
  kinds = Z ∷ Z ∷ Z ∷ I ∷ I ∷ I ∷ Z ∷ Z ∷ Z ∷ Z ∷ Z ∷ Z ∷ Z ∷ Z ∷ [];
  util = replicate 6 Nothing;
  vertices = record { name = codes "0"; arcs = Some 0; util = fields 0 } ∷ record { name = codes "1"; arcs = Some 1; util = fields 1 } ∷ [];
  records = record { tip = At 1; next = None; len = pos 1; a = Nothing; b = Nothing } ∷ record { tip = At 0; next = None; len = pos 1; a = Nothing; b = Nothing } ∷ [];
}

-- its one edge
abbrev edges : List Event
edges = record { from = 0; to = 1; len = pos 1 } ∷ []

-- each vertex's list is that of the edge
lists : (v : ℕ) → v < length pair.vertices → chain_of pair v ≡ list_of false edges v
unfolding numbers_from list_from
lists zero h = refl
lists (suc zero) h = refl
lists (suc (suc v)) h = absurd (omega arith)

-- its arcs are those of the edge
arcs : HasArcsOf false edges pair
unfolding ends_from
arcs = record {
  count = refl;
  tips = refl;
  lengths = refl;
  lists = lists;
  within = All-from_recursion (HasEndsBelow 2) edges ((omega arith, omega arith), tt);
  ends = All-from_recursion (λ x. ends_of pair.records x.arcs ≡ true) pair.vertices (refl, (refl, tt));
}

-- the graph of complete(2)
pub pair_is_complete : IfOk (board (complete (pos 2))) (λ d. IsGraphOf d pair)
unfolding box repeated digits name_of_vector displacements vectors_of_norm board_moves board_id family_graph
pair_is_complete = record {
  id = refl;
  kinds = refl;
  util = refl;
  names = refl;
  fields = refl;
  arcs = arcs;
  arc_fields = All-from_recursion (λ r. (r.a ≡ Nothing) × (r.b ≡ Nothing)) pair.records ((refl, refl), ((refl, refl), tt));
}
