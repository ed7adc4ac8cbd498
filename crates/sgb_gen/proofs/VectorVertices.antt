-- The vertices of a graph of vectors: their names, their lists, and the vectors after one of them.
use Rattle.std.proofs.Common.{◌≡◌, ◌∙◌, ℕ, suc, ◌<◌, List, [], ◌∷◌, ◌++◌, length, map, drop, replicate, Option, Some, None, refl, sym, ap, arith}
use Rattle.std.specs.List.{All, Contains, slice_get}
use Rattle.std.specs.Option.{IfSome}
use Rattle.std.proofs.lemmas.List.{get_or_at, length-append, length-map}
use Rattle.std.proofs.lemmas.List.Elements.{All-map}
use Rattle.std.proofs.lemmas.Option.{slice_get_read}
use Rattle.sgb_vec.specs.Lexicographic.{IsRising}
use Rattle.sgb_vec.specs.Names.{name_of_vector}
use Rattle.sgb_vec.specs.Ranges.{ComeAfter}
use Rattle.sgb_graph.specs.Events.{HasEndsBelow, list_of}
use Rattle.sgb_graph.specs.Graphs.{chain_of}
use Rattle.sgb_graph.specs.Made.{graph_described}
use Rattle.sgb_graph.specs.declared.fields.Kind.TheVariants.{Z, I}
use Rattle.sgb_graph.specs.Vertices.{names_of}
use Rattle.sgb_graph.proofs.Described.{described_is, described_names}
use Rattle.sgb_moves.specs.VectorMoves.{Move}
use Rattle.sgb_gen.specs.VectorGraphs.{HasEnds, VectorGraph, described_by, event_among, family_graph, kinds_of_family, vertex_among}
use Rattle.sgb_gen.proofs.RisingVectors.{vertex_in_rising}

-- a vector that is there has its vertex among theirs
pub vertex_within : (vectors : List (List ℕ)) (a : List ℕ) → IsRising vectors → Contains vectors a → vertex_among vectors a < length vectors
vertex_within vectors a rise (k, within, there) = grind (arith, slice_get_read, vertex_in_rising)

-- moves between vectors are events between their vertices
pub events_within : (vectors : List (List ℕ)) (moves : List Move) → IsRising vectors → All (HasEnds vectors) moves → All (HasEndsBelow (length vectors)) (map (event_among vectors) moves)
events_within vectors moves rise ends = All-map (HasEndsBelow (length vectors)) (event_among vectors) moves (λ k d within. grind (arith, vertex_within, ends k d))

-- the lists of the graph
pub lists_of_graph : (g : VectorGraph) → IsRising g.vectors → All (HasEnds g.vectors) g.moves
    → (v : ℕ) → v < length g.vectors → chain_of (graph_described (described_by g)) v ≡ list_of g.directed (map (event_among g.vectors) g.moves) v
unfolding family_graph
lists_of_graph g rise ends v within =
    let names = length-map g.vectors name_of_vector in
    let is = described_is (described_by g) (grind (arith, events_within)) (grind (arith, length-map)) in
    grind (arith, length-map)

-- the vertices have the names of the vectors
pub named_by_vectors : (g : VectorGraph) → names_of (graph_described (described_by g)) ≡ map name_of_vector g.vectors
unfolding family_graph
named_by_vectors g = grind (arith, described_names, length-map)

-- or of the members of a family that has those vectors
pub named_by_members : (g : VectorGraph) (members : List (List ℕ)) → members ≡ g.vectors → names_of (graph_described (described_by g)) ≡ map name_of_vector members
named_by_members g members same = grind (arith, named_by_vectors)

-- there are as many
pub names_count : (g : VectorGraph) → length (names_of (graph_described (described_by g))) ≡ length g.vectors
names_count g = grind (arith, named_by_vectors, length-map)

-- the graph has a vertex for each member
pub vertices_are_members : (g : VectorGraph) (members : List (List ℕ)) → members ≡ g.vectors → length (graph_described (described_by g)).vertices ≡ length members
vertices_are_members g members same =
    sym (length-map (graph_described (described_by g)).vertices (λ x. x.name)) ∙ ap length (named_by_members g members same) ∙ length-map members name_of_vector

-- the kinds of its fields, where it has no vertex, and where it has some
kinds_known : (vectors : List (List ℕ)) → length vectors ≡ 0 → kinds_of_family vectors ≡ replicate 14 Z
kinds_known [] none = refl
kinds_known (v ∷ vectors) none = absurd (omega (arith, none))

kinds_told : (vectors : List (List ℕ)) → (length vectors ≡ 0 → ⊥) → kinds_of_family vectors ≡ Z ∷ Z ∷ Z ∷ I ∷ I ∷ I ∷ replicate 8 Z
kinds_told [] some = absurd (some refl)
kinds_told (v ∷ vectors) some = refl

pub no_kinds_used : (g : VectorGraph) → length (graph_described (described_by g)).vertices ≡ 0 → (graph_described (described_by g)).kinds ≡ replicate 14 Z
unfolding family_graph
no_kinds_used g none = kinds_known g.vectors (sym (vertices_are_members g g.vectors refl) ∙ none)

pub some_kinds : (g : VectorGraph) → (length (graph_described (described_by g)).vertices ≡ 0 → ⊥) → (graph_described (described_by g)).kinds ≡ Z ∷ Z ∷ Z ∷ I ∷ I ∷ I ∷ replicate 8 Z
unfolding family_graph
some_kinds g some = kinds_told g.vectors (λ none. some (vertices_are_members g g.vectors refl ∙ none))

-- what comes after a vector of a list
after_both : (x : List ℕ) (ys after : List (List ℕ)) → drop (suc (length ys)) (ys ++ x ∷ after) ≡ after
after_both x [] after = refl
after_both x (y ∷ ys) after = after_both x ys after

-- what is left after the vector at which the listing begins
pub rest_from : (members : List (List ℕ)) → IsRising members → (x : List ℕ) (r : Option (List (List ℕ))) (rest : List (List ℕ)) → r ≡ Some rest
    → IfSome r (λ after. ComeAfter members x after) → rest ≡ drop (suc (vertex_among members x)) members
rest_from members rising x (Some after) rest same (before, whole) =
    let i = length before in
    let left : after ≡ rest = cc in
    let at = get_or_at before x after x i refl in
    let there : slice_get members i ≡ Some x = slice_get_read members (length members) i x refl (grind (arith, length-append)) (grind (arith)) in
    rw (← left, vertex_in_rising members i x rising there, whole, after_both x before after) refl
rest_from members rising x None rest same comes = absurd cc
