-- Runs of a generator's graph.
use Rattle.std.proofs.Common.{◌≡◌, ◌⊎◌, ◌∙◌, ℕ, suc, ◌+◌, ◌-◌, ◌<◌, ◌≤◌, Bool, true, false, List, [], ◌∷◌, ◌++◌, append_assoc, length, map, drop, drop-cons, add-one, None, Some, sym, ap, ap₂, inl, inr, arith}
use Rattle.std.specs.Prelude.{Option, IfNone, IfSome, IsSome, Result, Ok, Err, IfOk, IfErr}
use Rattle.std.specs.Bool.{OnTrue, OnFalse}
use Rattle.std.specs.List.{All, Contains, slice_get, slice_index_or}
use Rattle.std.proofs.lemmas.List.{drop-drop, get_or-map, length-drop, length-map}
use Rattle.std.proofs.lemmas.List.Elements.{All-contains}
use Rattle.std.proofs.lemmas.Option.{get_or_from_slice_get, slice_get_within}
use Rattle.sgb_vec.specs.Lexicographic.{IsRising}
use Rattle.sgb_vec.specs.Ranges.{ComeAfter}
use Rattle.sgb_vec.specs.Names.{name_of_vector}
use Rattle.sgb_gen.specs.VectorGraphs.{HasEnds, VectorGraph, described_by, vertex_among}
use Rattle.sgb_gen.proofs.RisingVectors.{vertex_in_rising}
use Rattle.sgb_gen.specs.LocalLists.{LocalArc, list_in}
use Rattle.sgb_graph.specs.declared.fields.Link.{Link}
use Rattle.sgb_graph.specs.Graphs.{GraphData, chain_of}
use Rattle.sgb_graph.specs.Made.{graph_described}
use Rattle.sgb_graph.specs.Vertices.{name_at}
use Rattle.sgb_gen.proofs.LocalChains.{SayList, chain_said}
use Rattle.sgb_gen.proofs.VectorVertices.{named_by_members, rest_from, vertices_are_members}
use Rattle.sgb_arrays.specs.Runs.{AreNames, IsRunRefusal, IsThere, part_starts, parts_of}
use Rattle.sgb_arrays.specs.inner.VectorNames.{name_there}
use Rattle.sgb_arrays.specs.declared.names.Names.{Names}
use Rattle.sgb_arrays.specs.declared.refusals.Wrong.{Wrong}
use Rattle.sgb_arrays.specs.declared.refusals.Wrong.TheVariants as wrong

-- the members after the one before a place are those from there on
pub rest_from_place : (members : List (List ℕ)) → IsRising members → (place : ℕ) (x y : List ℕ) (found : Bool) (r : Option (List (List ℕ))) (rest : List (List ℕ))
    → 0 < place → place ≤ length members → y ≡ x → OnTrue found (slice_get members (place - 1) ≡ Some x) → OnFalse found (length members ≤ place - 1)
    → r ≡ Some rest → IfSome r (λ after. ComeAfter members y after) → rest ≡ drop place members
rest_from_place members rise place x y true r rest some within same at none is after =
    let before : vertex_among members y ≡ place - 1 = ap (vertex_among members) same ∙ vertex_in_rising members (place - 1) x rise at in
    let next : suc (vertex_among members y) ≡ place = omega (arith, before, some) in
    rest_from members rise y r rest is after ∙ ap (λ k. drop k members) next
rest_from_place members rise place x y false r rest some within same at none is after = absurd (omega (arith, some, within, none))

-- a value more is put, of those from a place on
pub one_put : {X Y : Type 0} (f : X → Y) (xs : List X) (i : ℕ) (x : X) (now after all : List Y) → slice_get xs i ≡ Some x → now ++ map f (drop i xs) ≡ all → after ≡ now ++ f x ∷ []
    → after ++ map f (drop (i + 1) xs) ≡ all
one_put f xs i x now after all there whole put =
    let first : drop i xs ≡ x ∷ drop (i + 1) xs =
    drop-cons xs i x (slice_get_within xs i x there) ∙ ap₂ (λ y k. y ∷ drop k xs) (get_or_from_slice_get xs i x x there) (sym (add-one i)) in
    ap (λ ys. ys ++ map f (drop (i + 1) xs)) put ∙ append_assoc now (f x ∷ []) (map f (drop (i + 1) xs)) ∙ ap (λ ys. now ++ map f ys) (sym first) ∙ whole

-- what is left of the members is not empty before their end
pub some_front : {X : Type 0} (r : Option X) (left members : List (List ℕ)) (place : ℕ) → left ≡ drop place members → place < length members → IfNone r (left ≡ []) → IsSome r
some_front None left members place from within none = absurd (omega (arith, within, ap length none, ap length from, length-drop place members))
some_front (Some x) left members place from within none = search

-- without the first, the members from the next place on are left
pub left_after : (members left after : List (List ℕ)) (first k : ℕ) → left ≡ drop (first + k) members → after ≡ drop 1 left → after ≡ drop (first + (k + 1)) members
left_after members left after first k from one = rw (one, from, drop-drop 1 (first + k) members) (grind arith)

-- the arcs of a vector lead to vectors
pub tips_contained : (g h : VectorGraph) (arcs : List LocalArc) → h ≡ g → All (λ (a : LocalArc). Contains g.vectors a.tip) arcs
    → (k : ℕ) (arc : LocalArc) → slice_get arcs k ≡ Some arc → Contains h.vectors arc.tip
tips_contained g h arcs same tips k arc there =
    rw same (All-contains (λ (a : LocalArc). Contains g.vectors a.tip) arcs arc tips (k, slice_get_within arcs k arc there, get_or_from_slice_get arcs k arc arc there))

-- and say the list of its vertex
pub row_said : (g h : VectorGraph) (members : List (List ℕ)) → IsRising members → members ≡ g.vectors → All (HasEnds g.vectors) g.moves → (place : ℕ) (x : List ℕ) (arcs : List LocalArc) → h ≡ g
    → arcs ≡ list_in g x → slice_get g.vectors place ≡ Some x → SayList h.vectors arcs (chain_of (graph_described (described_by g)) place)
row_said g h members rise vectors ends place x arcs same is there = rw (same, is) (chain_said g (rw (← vectors) rise) ends place x there)

-- the name of the vector at a place
pub name_is_there : (members : List (List ℕ)) (place : ℕ) (x : List ℕ) → slice_get members place ≡ Some x → name_of_vector x ≡ name_there members place
name_is_there members place x there =
    sym (get_or-map name_of_vector members place x [] (slice_get_within members place x there) ∙ ap name_of_vector (get_or_from_slice_get members place x x there))

-- a run of members that is not there is none of the graph
pub run_refused : (g : GraphData) (n first count : ℕ) (why : Wrong) → length g.vertices ≡ n
    → ((why ≡ wrong.Vertices) × (first + count ≤ n → ⊥)) ⊎ (why ≡ wrong.NoRoom) → IsRunRefusal g first count why
run_refused g n first count why size (inl (e, out)) = inl (e, λ there. out (omega (arith, size, there)))
run_refused g n first count why size (inr none) = inr none

-- so the names of a run of members answer for the graph
pub names_answered : (g : VectorGraph) (members : List (List ℕ)) (first count : ℕ) (r : Result Names Wrong) → members ≡ g.vectors
    → IfOk r (λ names. (first + count ≤ length members) × (names.starts.items ≡ part_starts (name_there members) first count) × (names.bytes.items ≡ parts_of (name_there members) first count))
    → IfOk r (λ names. IsThere (graph_described (described_by g)) first count × AreNames (graph_described (described_by g)) first count names.starts.items names.bytes.items)
names_answered g members first count (Ok names) same (within, starts, bytes) = (
  omega (arith, vertices_are_members g members same, within),
  record {
    starts_are = starts ∙ ap (λ ns. part_starts (λ v. slice_index_or ns v []) first count) (sym (named_by_members g members same));
    bytes_are = bytes ∙ ap (λ ns. parts_of (λ v. slice_index_or ns v []) first count) (sym (named_by_members g members same));
  },
)
names_answered g members first count (Err why) same said = said

-- and have as many bytes
pub names_counted : (g : VectorGraph) (members : List (List ℕ)) (first count : ℕ) → members ≡ g.vectors
    → length (parts_of (name_there members) first count) ≡ length (parts_of (name_at (graph_described (described_by g))) first count)
names_counted g members first count same = ap (λ ns. length (parts_of (λ v. slice_index_or ns v []) first count)) (sym (named_by_members g members same))

pub refusal_answered : {T : Type 0} (g : VectorGraph) (members : List (List ℕ)) (first count : ℕ) (r : Result T Wrong) → members ≡ g.vectors
    → IfErr r (λ why. ((why ≡ wrong.Vertices) × (first + count ≤ length members → ⊥)) ⊎ (why ≡ wrong.NoRoom))
    → IfErr r (IsRunRefusal (graph_described (described_by g)) first count)
refusal_answered g members first count (Ok x) same said = said
refusal_answered g members first count (Err why) same said =
    run_refused (graph_described (described_by g)) (length members) first count why (vertices_are_members g members same) said

-- a vector's list is as long as that of its vertex
pub list_length : (g : VectorGraph) (members : List (List ℕ)) → IsRising members → members ≡ g.vectors → All (HasEnds g.vectors) g.moves → (place : ℕ) (x : List ℕ) → slice_get g.vectors place ≡ Some x
    → length (list_in g x) ≡ length (chain_of (graph_described (described_by g)) place)
list_length g members rise vectors ends place x there =
    let said = chain_said g (rw (← vectors) rise) ends place x there in
    sym (length-map (list_in g x) (λ (a : LocalArc). a.len)) ∙ ap length said.lengths ∙ length-map (chain_of (graph_described (described_by g)) place) (λ (l : Link). l.len)
