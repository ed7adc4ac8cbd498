-- The listing of a graph of vectors, from its vectors.
use Rattle.std.proofs.Common.{append_assoc, ◌≡◌, ◌∙◌, ◌+◌, ◌<◌, ℕ, zero, suc, ℤ, Bool, List, [], ◌∷◌, ◌++◌, length, map, drop, drop-cons, get_or, Some, Result, Ok, refl, sym, ap, arith, codes}
use Rattle.std.specs.Fmt.{signed_decimal}
use Rattle.std.specs.List.{All, Contains, flat_map, slice_get, slice_index_or}
use Rattle.std.proofs.lemmas.List.{drop-drop, length-drop}
use Rattle.std.proofs.lemmas.Option.{get_or_from_slice_get, slice_get_within}
use Rattle.sgb_vec.specs.Lexicographic.{IsRising}
use Rattle.sgb_vec.specs.Names.{name_of_vector}
use Rattle.sgb_graph.specs.declared.fields.Link.{Link}
use Rattle.sgb_vec.specs.declared.panics.Panic.{Panic}
use Rattle.sgb_graph.specs.Descriptions.{Description}
use Rattle.sgb_graph.specs.Events.{list_of}
use Rattle.sgb_graph.specs.Graphs.{GraphData, chain_of}
use Rattle.sgb_graph.specs.Made.{graph_described}
use Rattle.sgb_gen.specs.LocalLists.{LocalArc, list_at, list_in, local_arc}
use Rattle.sgb_gen.proofs.FamilyWalks.{first_in_drop}
use Rattle.sgb_moves.specs.VectorMoves.{Move}
use Rattle.sgb_gen.specs.VectorGraphs.{HasEnds, VectorGraph, described_by, event_among, family_graph}
use Rattle.sgb_gen.proofs.RisingVectors.{vertex_in_rising}
use Rattle.sgb_gen.proofs.VectorVertices.{lists_of_graph, named_by_members, named_by_vectors, names_count}
use Rattle.sgb_graph.specs.Vertices.{names_of}
use Rattle.sgb.specs.inner.Locals.{local_block, local_line}
use Rattle.sgb.specs.inner.Remaining.{IsRest}
use Rattle.sgb.specs.Texts.{arc_line, block, blocks, head, head_text, name_line}
use Rattle.sgb.specs.inner.Texts.{count_text, title_text}
use Rattle.sgb.specs.Outcomes.{answer_from, names_answer}
use Rattle.sgb_gen.specs.Generators.{described, made, vector_graph_of, vectors_of}
use Rattle.sgb.specs.Writing.{Effect, IsEnded}
use Rattle.sgb_requests.specs.declared.faults.Fault.{Fault}
use Rattle.sgb_requests.specs.declared.requests.Resume.{Resume}
use Rattle.sgb_gen.specs.declared.locals.Local.{Local}
use Rattle.sgb.proofs.Listings.{block-parts, blocks-first, blocks-none, head-parts}

-- the name at a place, or the empty one, is that of the vector there, or of the empty one
name_there : (vectors : List (List ℕ)) (t : ℕ) → slice_index_or (map name_of_vector vectors) t [] ≡ name_of_vector (get_or vectors t [])
unfolding name_of_vector
name_there [] t = refl
name_there (v ∷ vectors) zero = refl
name_there (v ∷ vectors) (suc t) = name_there vectors t

-- what stands first after others is among them all
pub contains_in_drop : (k : ℕ) (members : List (List ℕ)) (x : List ℕ) → slice_get (drop k members) 0 ≡ Some x → Contains members x
contains_in_drop k members x first = (k, grind (arith, first_in_drop, slice_get_within), grind (arith, first_in_drop, get_or_from_slice_get))

lines_of_arcs : (vectors : List (List ℕ)) (links : List Link) → flat_map (arc_line (map name_of_vector vectors)) links ≡ flat_map local_line (map (local_arc vectors) links)
unfolding arc_line local_line
lines_of_arcs vectors [] = refl
lines_of_arcs vectors (link ∷ links) = grind (arith, name_there, lines_of_arcs vectors links)

-- the block of a vertex is that of its vector
module _ (directed : Bool) (vectors : List (List ℕ)) (moves : List Move) (rise : IsRising vectors) (g : GraphData) (named : names_of g ≡ map name_of_vector vectors)
    (lists : (v : ℕ) → v < length vectors → chain_of g v ≡ list_of directed (map (event_among vectors) moves) v) where
  arcs_there : (v : ℕ) (x : List ℕ) → slice_get vectors v ≡ Some x → flat_map (arc_line (names_of g)) (chain_of g v) ≡ flat_map local_line (list_at directed vectors moves x)
  unfolding list_at
  arcs_there v x there = grind (arith, slice_get_within, vertex_in_rising, lines_of_arcs)

  name_of_there : (v : ℕ) (x : List ℕ) → slice_get vectors v ≡ Some x → slice_index_or (names_of g) v [] ≡ name_of_vector x
  name_of_there v x there = grind (arith, name_there, get_or_from_slice_get)

  block_there : (v : ℕ) (x : List ℕ) → slice_get vectors v ≡ Some x → block g v ≡ name_line (name_of_vector x) ++ flat_map local_line (list_at directed vectors moves x)
  block_there v x there = rw (block-parts g v (chain_of g v) refl, name_of_there v x there, arcs_there v x there) refl

-- the line of an arc in parts
pub line-parts : (tip : List ℕ) (len : ℤ) → local_line (record { tip = tip; len = len }) ≡ codes "  -> " ++ (name_of_vector tip ++ (codes ", length " ++ (signed_decimal len ++ codes "\n")))
unfolding local_line
line-parts tip len = grind (arith, append_assoc)

-- without the first, members are left
pub rest_of_rest : (members rest after : List (List ℕ)) → IsRest members rest → after ≡ drop 1 rest → IsRest members after
rest_of_rest members rest after (k, from) one = (k + 1, one ∙ ap (drop 1) from ∙ drop-drop 1 k members)

-- the names of a generator's vertices, from the members of its family
pub named_local : {T S : Type 0} (v : Result Description Panic) (l : Local) (members : List (List ℕ)) (resume : Resume) (out : Effect S) (r : Result T Fault)
    → v ≡ Ok (described l) → members ≡ vectors_of l → IsEnded (names_answer (map name_of_vector members) resume) out r
    → IsEnded (answer_from (made v) (λ d. names_answer (names_of d) resume)) out r
named_local v l members resume out r e vectors p = rw (e, named_by_members (vector_graph_of l) members vectors) p

pub head_of_graph : (g : VectorGraph) (n m : ℕ) → n ≡ length g.vectors → m ≡ (graph_described (described_by g)).m → head (graph_described (described_by g)) ≡ head_text g.id n m
unfolding family_graph
head_of_graph g n m size arcs = grind (arith, names_count)

-- its two parts
pub head_in_parts : (g : VectorGraph) (id : List ℕ) (n : ℕ) → id ≡ g.id → n ≡ length g.vectors → head (graph_described (described_by g)) ≡ title_text id n ++ count_text (graph_described (described_by g)).m
head_in_parts g id n named size =
    head_of_graph g n (graph_described (described_by g)).m size refl ∙ ap (λ i. head_text i n (graph_described (described_by g)).m) (sym named) ∙ head-parts id n (graph_described (described_by g)).m

module _ (g : VectorGraph) (rise : IsRising g.vectors) (ends : All (HasEnds g.vectors) g.moves) where
  -- the block of a vertex is that of its vector
  block_of_vector : (v : ℕ) (x : List ℕ) → slice_get g.vectors v ≡ Some x → block (graph_described (described_by g)) v ≡ local_block g x
  unfolding local_block
  block_of_vector v x there = grind (arith, block_there, named_by_vectors, lists_of_graph)

  -- the blocks from a vertex on are those of the vectors that are left
  pub blocks_of_rest : (k : ℕ) (rest : List (List ℕ)) → rest ≡ drop k g.vectors → blocks (graph_described (described_by g)) k ≡ flat_map (local_block g) rest
  blocks_of_rest k [] left =
      blocks-none (graph_described (described_by g)) k (omega (arith, names_count g, ap length left, length-drop k g.vectors))
  blocks_of_rest k (x ∷ rest) left =
      let there : slice_get g.vectors k ≡ Some x = sym (first_in_drop k g.vectors) ∙ ap (λ xs. slice_get xs 0) (sym left) in
      let after : rest ≡ drop (k + 1) g.vectors = ap (drop 1) left ∙ drop-drop 1 k g.vectors in
      grind (arith, slice_get_within, names_count, blocks-first, block_of_vector, blocks_of_rest (k + 1) rest after)

-- a block in parts, by the vector whose name is kept
pub parts-named : (g : VectorGraph) (x name : List ℕ) (arcs : List LocalArc) → arcs ≡ list_in g x → name ≡ x → local_block g x ≡ name_line (name_of_vector name) ++ flat_map local_line arcs
unfolding local_block
parts-named g x name arcs same named = grind (arith)
