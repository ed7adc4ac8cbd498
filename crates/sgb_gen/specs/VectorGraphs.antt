-- The graph of a family of vectors: what the graphs of board, simplex and subsets have in common [GB_BASIC].
use Rattle.std.specs.Prelude.{ℕ, ◌<◌, pos, Bool, List, [], ◌∷◌, ◌++◌, length, map, replicate, slice_index, sum, codes}
use Rattle.std.specs.List.{Contains, position_or_len, join_with_byte}
use Rattle.sgb_vec.specs.Names.{name_of_vector}
use Rattle.sgb_moves.specs.VectorMoves.{Move, same_vector}
use Rattle.sgb_graph.specs.Events.{Event}
use Rattle.sgb_graph.specs.Descriptions.{Description}
use Rattle.sgb_graph.specs.declared.fields.Kind.{Kind}
use Rattle.sgb_graph.specs.declared.fields.Kind.TheVariants.{Z, I}
use Rattle.sgb_graph.specs.declared.fields.Util.{Util}
use Rattle.sgb_graph.specs.declared.fields.Util.TheVariants.{Nothing, Int}

-- both ends of a move are among the vectors
abbrev pub HasEnds : List (List ℕ) → Move → Type 0
HasEnds vectors m = Contains vectors m.from × Contains vectors m.to

-- a graph whose vertices are vectors: its id, whether its events are arcs and not edges, its vertices and its events in order
pub record VectorGraph : Type 0 where
  pub id : List ℕ
  pub directed : Bool
  pub vectors : List (List ℕ)
  pub moves : List Move

-- some vector has a unit, and two entries or more, between which it might go
abbrev pub HasUnitToMove : VectorGraph → Type 0
HasUnitToMove g = (v : List ℕ) × Contains g.vectors v × (1 < length v) × (0 < sum v)

-- where v stands among the vectors, counted from 0
abbrev pub vertex_among : List (List ℕ) → List ℕ → ℕ
vertex_among vectors v = position_or_len (λ w. same_vector w v) vectors

-- the event of a move, where the vectors are the vertices
abbrev pub event_among : List (List ℕ) → Move → Event
event_among vectors m = record { from = vertex_among vectors m.from; to = vertex_among vectors m.to; len = pos m.len }

-- the utility fields u to z of a vector's vertex: x, y and z hold its first three entries, and 0 for those that it has not
abbrev pub fields_of_vector : List ℕ → List Util
fields_of_vector v =
    Nothing ∷ Nothing ∷ Nothing ∷ Int (pos (slice_index v 0)) ∷ Int (pos (slice_index v 1)) ∷ Int (pos (slice_index v 2)) ∷ []

-- util_types: ZZZIIIZZZZZZZZ, or fourteen Z where there is no vertex
abbrev pub kinds_of_family : List (List ℕ) → List Kind
kinds_of_family [] = replicate 14 Z
kinds_of_family (v ∷ vectors) = Z ∷ Z ∷ Z ∷ I ∷ I ∷ I ∷ replicate 8 Z

-- the id of a generated graph: its generator's name, and in parentheses the texts of its parameters with commas (44) between
abbrev pub call_text : List ℕ → List (List ℕ) → List ℕ
call_text name words = name ++ codes "(" ++ join_with_byte 44 words ++ codes ")"

-- the graph whose vertices are the vectors and whose events are the moves
unfoldable pub family_graph : List ℕ → Bool → List (List ℕ) → List Move → Description
family_graph id directed vectors moves = record {
  id = id;
  directed = directed;
  events = map (event_among vectors) moves;
  kinds = kinds_of_family vectors;
  util = replicate 6 Nothing;
  names = map name_of_vector vectors;
  fields = map fields_of_vector vectors;
}

-- the description of a graph whose vertices are vectors
abbrev pub described_by : VectorGraph → Description
described_by g = family_graph g.id g.directed g.vectors g.moves
