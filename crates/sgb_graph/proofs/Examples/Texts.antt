-- Letters of kinds, texts that ids are made of, ids at their limit, vertices and their names, and values that are seen.
use Rattle.std.specs.Prelude.{◌≡◌, ◌≤◌, pos, negsuc, true, false, [], ◌∷◌, map, codes, replicate, refl, Some}
use Rattle.std.specs.Fmt.{digits}
use Rattle.std.proofs.Common.{arith}
use Rattle.sgb_graph.specs.Columns.{util_seen}
use Rattle.sgb_graph.specs.Events.{Event, HasEndsBelow}
use Rattle.sgb_graph.specs.Graphs.{GraphData}
use Rattle.sgb_graph.specs.Growth.{new_graph}
use Rattle.sgb_graph.specs.Ids.{IsId, cut_id}
use Rattle.sgb_graph.specs.IdTexts.{is_id_text, flag_text, numbers_text, hexadecimal_text}
use Rattle.sgb_graph.specs.Kinds.{letter_of}
use Rattle.sgb_graph.specs.Vertices.{order_of, places_of, names_of, name_at}
use Rattle.sgb_graph.specs.declared.fields.Kind.TheVariants.{Z, I, V, S, A}
use Rattle.sgb_graph.specs.declared.fields.Ref.TheVariants.{At}
use Rattle.sgb_graph.specs.declared.fields.Util.TheVariants.{Nothing, Int, Vertex as VertexField, Chain}
use Rattle.sgb_graph.specs.declared.fields.UtilRef.TheVariants.{Nothing as NothingSeen, Int as IntSeen, Vertex as VertexSeen, Chain as ChainSeen}

pub letters : map letter_of (Z ∷ I ∷ V ∷ S ∷ A ∷ []) ≡ codes "ZIVSA"
letters = refl

pub flags : (flag_text true ≡ codes "1") × (flag_text false ≡ codes "0")
flags = (refl, refl)

pub numbers : numbers_text (pos 3 ∷ negsuc 11 ∷ []) ≡ codes "3,-12,"
unfolding digits
numbers = refl

pub hexadecimal : hexadecimal_text 431 ≡ codes "0x1af"
unfolding digits
hexadecimal = refl

pub texts_of_ids : map is_id_text (codes "a b" ∷ codes "a\"b" ∷ []) ≡ true ∷ false ∷ []
texts_of_ids = refl

pub cut : cut_id 2 (codes "abcd") ≡ codes "ab...)"
cut = refl

pub id_too_long : IsId (replicate 161 97) → ⊥
id_too_long is = let many : 161 ≤ 160 = is.short in absurd (omega (arith, many))

-- two vertices: there is none at place 2
abbrev two : GraphData
two = new_graph (codes "an" ∷ codes "b" ∷ [])

pub vertices : (order_of two ≡ 2) × (places_of two ≡ 0 ∷ 1 ∷ []) × (names_of two ≡ codes "an" ∷ codes "b" ∷ [])
vertices = (refl, refl, refl)

pub names_at : map (name_at two) (0 ∷ 1 ∷ 2 ∷ []) ≡ codes "an" ∷ codes "b" ∷ [] ∷ []
names_at = refl

pub values_seen : map util_seen (NothingSeen ∷ IntSeen (pos 7) ∷ VertexSeen (At 1) ∷ ChainSeen (Some 2) ∷ [])
    ≡ Nothing ∷ Int (pos 7) ∷ VertexField (At 1) ∷ Chain (Some 2) ∷ []
values_seen = refl

-- an event whose ends are vertices 0 and 2
abbrev event : Event
event = record { from = 0; to = 2; len = pos 1 }

abbrev turned : Event
turned = record { from = 2; to = 0; len = pos 1 }

pub ends_below : HasEndsBelow 3 event × HasEndsBelow 3 turned
ends_below = ((omega arith, omega arith), (omega arith, omega arith))

pub ends_not_below : (HasEndsBelow 2 event → ⊥) × (HasEndsBelow 2 turned → ⊥)
ends_not_below = ((λ is. absurd (omega (arith, is.1))), (λ is. absurd (omega (arith, is.0))))
