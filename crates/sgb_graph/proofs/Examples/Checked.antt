-- Parts that make up a graph, and parts that make up none.
use Rattle.std.specs.Prelude.{◌≡◌, ℕ, pos, List, [], ◌∷◌, length, codes, refl, Option, Some, None, Result, Ok, Err, slice_set}
use Rattle.std.proofs.Common.{ap, inl, inr, arith}
use Rattle.sgb_vec.specs.declared.panics.Panic.{Panic}
use Rattle.sgb_vec.specs.declared.panics.Panic.TheVariants.{NoRoom, Syntax}
use Rattle.sgb_graph.specs.Graphs.{GraphData, ends_from, numbers_from, chain_of}
use Rattle.sgb_graph.specs.Growth.{graph_data, link}
use Rattle.sgb_graph.specs.Made.{no_fields, no_kinds}
use Rattle.sgb_vec.specs.Results.{IsValue}
use Rattle.sgb_graph.specs.Parts.{checked, with_record, with_vertex}
use Rattle.sgb_graph.specs.declared.fields.Kind.{Kind}
use Rattle.sgb_graph.specs.declared.fields.Kind.TheVariants.{Z, I, V, S, A}
use Rattle.sgb_graph.specs.declared.fields.Ref.{Ref}
use Rattle.sgb_graph.specs.declared.fields.Ref.TheVariants.{Null, One, At}
use Rattle.sgb_graph.specs.declared.fields.Util.{Util}
use Rattle.sgb_graph.specs.declared.fields.Util.TheVariants.{Nothing, Int, Vertex as VertexField, Str, Chain}
use Rattle.sgb_graph.specs.declared.fields.Vertex.{Vertex}
use Rattle.sgb_graph.specs.declared.fields.ArcRec.{ArcRec}

-- a vertex with this first arc
abbrev vertex : Option ℕ → Vertex
vertex first = record { name = codes "x"; arcs = first; util = no_fields }

-- a record with this tip and this next one
abbrev arc : Ref → Option ℕ → ArcRec
arc end after = record { tip = end; next = after; len = pos 1; a = Nothing; b = Nothing }

-- parts with no utility fields
abbrev parts : List Vertex → List ArcRec → GraphData
parts vertices records = graph_data (codes "g") 0 no_kinds no_fields vertices records

-- a vertex and a record come after the others
pub vertex_after : with_vertex (vertex (Some 0)) (parts (vertex None ∷ []) []) ≡ parts (vertex None ∷ vertex (Some 0) ∷ []) []
vertex_after = refl

pub record_after : with_record (arc Null None) (parts [] (arc One None ∷ [])) ≡ parts [] (arc One None ∷ arc Null None ∷ [])
record_after = refl

-- a vertex whose first record is not there
pub no_record : checked (parts (vertex (Some 0) ∷ []) []) ≡ Err Syntax
unfolding ends_from numbers_from
no_record = refl

-- a loop of one record
abbrev loop : GraphData
loop = parts (vertex (Some 0) ∷ []) (arc (At 0) None ∷ [])

pub one_record : checked loop ≡ Ok loop
unfolding ends_from numbers_from
one_record = refl

-- no vertex and no record
pub nothing_at_all : checked (parts [] []) ≡ Ok (parts [] [])
unfolding ends_from numbers_from
nothing_at_all = refl

-- two records that are each other's next one, on no list and on one; and one that is its own
pub rings :
    (checked (parts (vertex None ∷ []) (arc (At 0) (Some 1) ∷ arc (At 0) (Some 0) ∷ [])) ≡ Err Syntax)
    × (checked (parts (vertex (Some 1) ∷ []) (arc (At 0) (Some 1) ∷ arc (At 0) (Some 0) ∷ [])) ≡ Err Syntax)
    × (checked (parts [] (arc Null (Some 0) ∷ [])) ≡ Err Syntax)
unfolding ends_from numbers_from
rings = (refl, refl, refl)

-- a tip that is no vertex: first on a list, later on it, and on none
pub no_vertices :
    (checked (parts (vertex (Some 0) ∷ []) (arc Null None ∷ [])) ≡ Err Syntax)
    × (checked (parts (vertex (Some 1) ∷ []) (arc One None ∷ arc (At 0) (Some 0) ∷ [])) ≡ Err Syntax)
unfolding ends_from numbers_from
no_vertices = (refl, refl)

abbrev apart : GraphData
apart = parts (vertex (Some 1) ∷ []) (arc Null None ∷ arc (At 0) None ∷ arc One (Some 0) ∷ [])

pub null_on_no_list : checked apart ≡ Ok apart
unfolding ends_from numbers_from
null_on_no_list = refl

-- two lists share a record
abbrev shared : GraphData
shared = parts (vertex (Some 0) ∷ vertex (Some 1) ∷ []) (arc (At 1) None ∷ arc (At 0) (Some 0) ∷ [])

pub shared_record : checked shared ≡ Ok shared
unfolding ends_from numbers_from
shared_record = refl

pub shared_list : chain_of shared 1 ≡ link 1 0 (pos 1) ∷ link 0 1 (pos 1) ∷ []
unfolding numbers_from
shared_list = refl

-- a vertex or a record whose number is too great
pub numbers_too_great :
    (checked (parts (vertex None ∷ []) (arc (At 1) None ∷ [])) ≡ Err Syntax)
    × (checked (parts [] (arc Null (Some 1) ∷ [])) ≡ Err Syntax)
unfolding ends_from numbers_from
numbers_too_great = (refl, refl)

-- parts with one kind changed, one value of the vertex, one of the record and one of the graph
abbrev fielded : ℕ → Kind → Util → Util → Util → GraphData
fielded place kind own other whole =
    graph_data (codes "g") 0 (slice_set no_kinds place kind) (slice_set no_fields 5 whole)
    (record { name = codes "x"; arcs = None; util = slice_set no_fields 0 own } ∷ [])
    (record { tip = Null; next = None; len = pos 1; a = Nothing; b = other } ∷ [])

-- an integer field with nothing, and one not used with an integer, in a vertex, a record and the graph
pub integers :
    (checked (fielded 0 I Nothing Nothing Nothing) ≡ Err Syntax)
    × (checked (fielded 0 I (Int (pos 7)) Nothing Nothing) ≡ Ok (fielded 0 I (Int (pos 7)) Nothing Nothing))
    × (checked (fielded 0 Z (Int (pos 7)) Nothing Nothing) ≡ Err Syntax)
    × (checked (fielded 0 Z Nothing (Int (pos 7)) Nothing) ≡ Err Syntax)
    × (checked (fielded 0 Z Nothing Nothing (Int (pos 7))) ≡ Err Syntax)
    × (checked (fielded 7 I Nothing (Int (pos 7)) Nothing) ≡ Ok (fielded 7 I Nothing (Int (pos 7)) Nothing))
    × (checked (fielded 7 I Nothing Nothing Nothing) ≡ Err Syntax)
    × (checked (fielded 13 I Nothing Nothing (Int (pos 7))) ≡ Ok (fielded 13 I Nothing Nothing (Int (pos 7))))
    × (checked (fielded 13 I Nothing Nothing Nothing) ≡ Err Syntax)
unfolding ends_from numbers_from
integers = (refl, refl, refl, refl, refl, refl, refl, refl, refl)

-- a string, a vertex that is there, and one that is not; a record that is there, and one that is not
pub other_fields :
    (checked (fielded 0 S (Str (codes "s")) Nothing Nothing) ≡ Ok (fielded 0 S (Str (codes "s")) Nothing Nothing))
    × (checked (fielded 7 V Nothing (VertexField (At 0)) Nothing) ≡ Ok (fielded 7 V Nothing (VertexField (At 0)) Nothing))
    × (checked (fielded 13 V Nothing Nothing (VertexField One)) ≡ Ok (fielded 13 V Nothing Nothing (VertexField One)))
    × (checked (fielded 0 V (VertexField (At 1)) Nothing Nothing) ≡ Err Syntax)
    × (checked (fielded 13 A Nothing Nothing (Chain (Some 0))) ≡ Ok (fielded 13 A Nothing Nothing (Chain (Some 0))))
    × (checked (fielded 13 A Nothing Nothing (Chain (Some 1))) ≡ Err Syntax)
unfolding ends_from numbers_from
other_fields = (refl, refl, refl, refl, refl, refl)

-- the answer is that of the definition, or out of memory
pub other_graph : IsValue (Ok loop) (Ok shared) → ⊥
other_graph is = let many : 1 ≡ 2 = ap (λ r. lengths r) is in absurd (omega (arith, many))
  where
    lengths : Result GraphData Panic → ℕ
    lengths (Ok g) = length g.vertices
    lengths (Err p) = 0

pub graph_refused : IsValue (Ok loop) (Err Syntax) → ⊥
graph_refused (inl is) = absurd cc
graph_refused (inr is) = absurd cc

pub graph_of_others : IsValue (Err Syntax) (Ok loop) → ⊥
graph_of_others is = absurd cc

pub out_of_memory : IsValue (Ok loop) (Err NoRoom)
out_of_memory = inr refl
