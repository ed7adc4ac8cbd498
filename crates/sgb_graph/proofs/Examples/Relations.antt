-- What holds of small graphs and of their parts, and what nearly does: arcs of events, fields that fit, kept graphs, answers.
use Rattle.std.specs.Prelude.{◌≡◌, ◌≤◌, ◌<◌, ℕ, zero, suc, pos, true, false, List, [], ◌∷◌, All, map, codes, length, refl, None, Some, Ok, Err, slice_set}
use Rattle.std.proofs.Common.{ap, arith, inr}
use Rattle.sgb_vec.specs.declared.panics.Panic.TheVariants.{NoRoom, Bad}
use Rattle.sgb_graph.specs.Columns.{arc_seen}
use Rattle.sgb_graph.specs.Descriptions.{IsAnswerOf}
use Rattle.sgb_graph.specs.Events.{Event, HasArcsOf, HasEndsBelow, list_from, list_of}
use Rattle.sgb_graph.specs.Graphs.{GraphData, HasNoFields, ListsEnd, chain_of, ends_from, numbers_from, vertex_of}
use Rattle.sgb_graph.specs.Growth.{AddsEvents, IsKept, graph_data, new_vertex, some_numbers}
use Rattle.sgb_graph.specs.Made.{no_fields, no_kinds, plain}
use Rattle.sgb_graph.specs.Parts.{vertex_with_ints}
use Rattle.sgb_graph.specs.Sound.{fields_fit, leads_to_vertex, record_fits, utils_fit, vertex_fits}
use Rattle.sgb_graph.specs.declared.fields.Kind.TheVariants.{Z, V, A}
use Rattle.sgb_graph.specs.declared.fields.Ref.TheVariants.{Null, At}
use Rattle.sgb_graph.specs.declared.fields.Util.TheVariants.{Nothing, Int, Vertex as VertexField, Chain}
use Rattle.sgb_graph.specs.declared.fields.UtilRef.TheVariants.{Nothing as NothingSeen, Int as IntSeen}
use Rattle.sgb_graph.specs.declared.fields.Vertex.{Vertex}
use Rattle.sgb_graph.specs.declared.fields.ArcRec.{ArcRec}
use Rattle.sgb_graph.proofs.PlainGraphs.{plain_graph}

-- ---- records and fields

pub record_seen : arc_seen (record { tip = At 1; next = None; len = pos 2; a = IntSeen (pos 3); b = NothingSeen })
    ≡ record { tip = At 1; next = None; len = pos 2; a = Int (pos 3); b = Nothing }
record_seen = refl

abbrev first_used : ArcRec
first_used = record { tip = At 0; next = None; len = pos 1; a = Int (pos 3); b = Nothing }

abbrev second_used : ArcRec
second_used = record { tip = At 0; next = None; len = pos 1; a = Nothing; b = Int (pos 3) }

pub with_fields : (HasNoFields first_used → ⊥) × (HasNoFields second_used → ⊥)
with_fields = ((λ is. let used : Int (pos 3) ≡ Nothing = is.0 in absurd cc), (λ is. let used : Int (pos 3) ≡ Nothing = is.1 in absurd cc))

pub numbers_put : (some_numbers no_fields ≡ Nothing ∷ Nothing ∷ Nothing ∷ Int (pos 0) ∷ Int (pos 0) ∷ Int (pos 0) ∷ [])
    × ((vertex_with_ints (codes "a") (Some 1) (pos 1) (pos 2) (pos 3)).util ≡ Nothing ∷ Nothing ∷ Nothing ∷ Int (pos 1) ∷ Int (pos 2) ∷ Int (pos 3) ∷ [])
numbers_put = (refl, refl)

-- a record that is not there leads nowhere, and no way through it ends
pub not_there : (leads_to_vertex [] 0 ≡ false) × (ends_from 1 (first_used ∷ []) (Some 1) ≡ false) × (vertex_of Null ≡ 0)
unfolding ends_from
not_there = (refl, refl, refl)

-- with two vertices and one record, and with one more value or kind
pub values_fit : (utils_fit 2 1 (V ∷ V ∷ A ∷ []) (VertexField (At 1) ∷ VertexField (At 1) ∷ Chain (Some 0) ∷ []) ≡ true)
    × (utils_fit 2 1 [] (Nothing ∷ []) ≡ false) × (utils_fit 2 1 (Z ∷ []) [] ≡ false)
values_fit = (refl, refl, refl)

-- a field of a vertex, of a record and of the graph (places 0, 6 and 8 of its kinds) that leads to the second of two vertices
abbrev led : GraphData
led = graph_data (codes "g") 0 (slice_set (slice_set (slice_set no_kinds 0 V) 6 V) 8 V) (slice_set no_fields 0 (VertexField (At 1)))
    (new_vertex (codes "a") ∷ new_vertex (codes "b") ∷ []) []

abbrev leading : Vertex → Vertex
leading x = record x { util = slice_set no_fields 0 (VertexField (At 1)) }

pub fields_lead : (vertex_fits led (leading (new_vertex (codes "a"))) ≡ true)
    × (record_fits led (record { tip = At 1; next = None; len = pos 1; a = VertexField (At 1); b = Nothing }) ≡ true)
    × (fields_fit (record led { vertices = map leading led.vertices }) ≡ true)
fields_lead = (refl, refl, refl)

-- ---- graphs that are kept

-- one record, which is on no list, and this number of arcs
abbrev counted : ℕ → GraphData
counted m = graph_data (codes "g") m no_kinds no_fields [] (record { tip = Null; next = None; len = pos 1; a = Nothing; b = Nothing } ∷ [])

pub most_arcs : IsKept (counted 1_000_000_000_000_000_001)
unfolding ends_from numbers_from
most_arcs = let count : 1_000_000_000_000_000_001 ≤ 1_000_000_000_000_000_001 = omega arith in
    record { graph = record { vertices_fit = refl; fields = refl; lists = refl }; count = count }

pub too_many_arcs : IsKept (counted 1_000_000_000_000_000_002) → ⊥
too_many_arcs is = let count : 1_000_000_000_000_000_002 ≤ 1_000_000_000_000_000_001 = is.count in absurd (omega (arith, count))

-- ---- arcs of events

-- from 0 to 1, and back
abbrev there : Event
there = record { from = 0; to = 1; len = pos 5 }

abbrev back : Event
back = record { from = 1; to = 0; len = pos 6 }

abbrev graph : List Event → GraphData
graph events = plain_graph true events (codes "a" ∷ codes "b" ∷ []) (codes "g")

pub lists_there : (v : ℕ) → v < 2 → chain_of (graph (there ∷ [])) v ≡ list_of true (there ∷ []) v
unfolding list_from numbers_from
lists_there zero inside = refl
lists_there (suc zero) inside = refl
lists_there (suc (suc v)) inside = absurd (omega (arith, inside))

pub ends_there : ListsEnd (graph (there ∷ []))
unfolding list_from ends_from
ends_there zero d inside = refl
ends_there (suc zero) d inside = refl
ends_there (suc (suc k)) d inside = absurd (omega (arith, inside))

pub within_there : All (HasEndsBelow 2) (there ∷ [])
within_there zero d inside = (omega arith, omega arith)
within_there (suc k) d inside = absurd (omega (arith, inside))

pub arcs_there : HasArcsOf true (there ∷ []) (graph (there ∷ []))
unfolding list_from
arcs_there = record { count = refl; tips = refl; lengths = refl; lists = lists_there; within = within_there; ends = ends_there }

-- the list of a vertex is that of the events
pub list_missing : HasArcsOf true (there ∷ []) (record (graph (there ∷ [])) { vertices = new_vertex (codes "a") ∷ new_vertex (codes "b") ∷ [] }) → ⊥
unfolding list_from numbers_from
list_missing is = let none : 0 ≡ 1 = ap (λ l. length l) (is.lists 0 (omega arith)) in absurd (omega (arith, none))

-- events are added after those that were there
pub other_order : AddsEvents true (graph (there ∷ [])) (graph (back ∷ there ∷ [])) (back ∷ []) → ⊥
unfolding list_from
other_order is = let tips : At 0 ∷ At 1 ∷ [] ≡ At 1 ∷ At 0 ∷ [] = (is.arcs (there ∷ []) arcs_there).tips in absurd cc

-- ---- answers

pub out_of_memory : IsAnswerOf (Ok (plain true [] [] [])) (Err NoRoom) × IsAnswerOf (Err Bad) (Err NoRoom)
out_of_memory = (refl, inr refl)

pub no_answer : IsAnswerOf (Ok (plain true [] [] [])) (Err Bad) → ⊥
no_answer is = absurd cc
