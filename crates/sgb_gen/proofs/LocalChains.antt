-- The lists of a graph of vectors, by the arcs of its vectors.
use Rattle.std.proofs.Common.{rules, ◌≡◌, ◌∙◌, ◌<◌, ℕ, suc, Bool, List, [], ◌∷◌, get_or, length, map, Some, refl, sym, ap, subst, arith}
use Rattle.std.specs.List.{All, Contains, slice_get}
use Rattle.std.proofs.lemmas.List.Elements.{Contains-get_or}
use Rattle.std.proofs.lemmas.Option.{get_or_from_slice_get, slice_get-get_or, slice_get_within}
use Rattle.sgb_vec.specs.Lexicographic.{IsRising}
use Rattle.sgb_vec.proofs.Lists.{All-flat_map}
use Rattle.sgb_graph.specs.Events.{Event, HasEndsBelow, Record, all_records, list_of, records_of}
use Rattle.sgb_graph.specs.Graphs.{GraphData, chain_of}
use Rattle.sgb_graph.specs.Made.{graph_described}
use Rattle.sgb_graph.specs.declared.fields.Link.{Link}
use Rattle.sgb_graph.proofs.ListMembers.{only_on_list}
use Rattle.sgb_gen.specs.LocalLists.{LocalArc, list_at, list_in, local_arc}
use Rattle.sgb_moves.specs.VectorMoves.{Move}
use Rattle.sgb_gen.specs.VectorGraphs.{HasEnds, VectorGraph, described_by, event_among, vertex_among}
use Rattle.sgb_gen.proofs.RisingVectors.{vertex_in_rising}
use Rattle.sgb_gen.proofs.VectorVertices.{events_within, lists_of_graph}

-- the arcs of events between vertices lead to vertices
tips_of_event : (n : ℕ) (directed : Bool) (e : Event) → HasEndsBelow n e → All (λ r. r.tip < n) (records_of directed e)
tips_of_event n directed e within = grind arith

tips_of_events : (n : ℕ) (directed : Bool) (events : List Event) → All (HasEndsBelow n) events → All (λ r. r.tip < n) (all_records directed events)
tips_of_events n directed events within = search (rules, All-flat_map, tips_of_event)

tip_of_link : (n : ℕ) (directed : Bool) (events : List Event) (v : ℕ) (l : Link) → All (HasEndsBelow n) events → Contains (list_of directed events v) l → l.tip < n
tip_of_link n directed events v l within has =
    let own : Record = record { start = v; tip = l.tip; len = l.len } in
    let is = only_on_list directed events v l has in
    subst (λ (r : Record). r.tip < n) (get_or_from_slice_get (all_records directed events) l.number own own is)
    (tips_of_events n directed events within l.number own (slice_get_within (all_records directed events) l.number own is))

-- the vertex of the vector where an arc leads is its tip
numbers_of_tips : (vectors : List (List ℕ)) (links : List Link) → IsRising vectors → ((l : Link) → Contains links l → l.tip < length vectors)
    → map (λ a. vertex_among vectors a.tip) (map (local_arc vectors) links) ≡ map (λ l. l.tip) links
numbers_of_tips vectors [] rise below = refl
numbers_of_tips vectors (l ∷ links) rise below =
    let own : l.tip < length vectors = below l (0, omega arith, refl) in
    let there = slice_get-get_or vectors l.tip [] own in
    let more = numbers_of_tips vectors links rise (λ k (i, within, at). below k (suc i, omega arith, at)) in
    grind (arith, vertex_in_rising)

lengths_kept : (vectors : List (List ℕ)) (links : List Link) → map (λ (a : LocalArc). a.len) (map (local_arc vectors) links) ≡ map (λ (l : Link). l.len) links
lengths_kept vectors [] = refl
lengths_kept vectors (l ∷ links) = ap (λ ks. l.len ∷ ks) (lengths_kept vectors links)

-- the arcs of a vector say where the arcs of its vertex lead, and how long they are
pub record SayList (vectors : List (List ℕ)) (arcs : List LocalArc) (chain : List Link) : Type 0 where
  pub tips : map (λ (a : LocalArc). vertex_among vectors a.tip) arcs ≡ map (λ (l : Link). l.tip) chain
  pub lengths : map (λ (a : LocalArc). a.len) arcs ≡ map (λ (l : Link). l.len) chain

module _ (directed : Bool) (vectors : List (List ℕ)) (moves : List Move) (rise : IsRising vectors) (ends : All (HasEnds vectors) moves)
    (g : GraphData) (lists : (v : ℕ) → v < length vectors → chain_of g v ≡ list_of directed (map (event_among vectors) moves) v) where
  say_list : (v : ℕ) (x : List ℕ) → slice_get vectors v ≡ Some x → SayList vectors (list_at directed vectors moves x) (chain_of g v)
  unfolding list_at
  say_list v x there =
      let events = map (event_among vectors) moves in
      let within : v < length vectors = slice_get_within vectors v x there in
      let chain : chain_of g v ≡ list_of directed events v = lists v within in
      let own : list_at directed vectors moves x ≡ map (local_arc vectors) (list_of directed events v) = grind (arith, vertex_in_rising) in
      record {
        tips =
            ap (map (λ (a : LocalArc). vertex_among vectors a.tip)) own
            ∙ numbers_of_tips vectors (list_of directed events v) rise (λ l has. tip_of_link (length vectors) directed events v l (events_within vectors moves rise ends) has)
            ∙ ap (map (λ (l : Link). l.tip)) (sym chain);
        lengths = grind (arith, lengths_kept);
      }

pub chain_said : (g : VectorGraph) → IsRising g.vectors → All (HasEnds g.vectors) g.moves → (v : ℕ) (x : List ℕ) → slice_get g.vectors v ≡ Some x
    → SayList g.vectors (list_in g x) (chain_of (graph_described (described_by g)) v)
chain_said g rise ends v x there =
    say_list g.directed g.vectors g.moves rise ends (graph_described (described_by g)) (lists_of_graph g rise ends) v x there

-- the arcs of each list lead to vertices
pub tips_within : (g : VectorGraph) → IsRising g.vectors → All (HasEnds g.vectors) g.moves → (v : ℕ) → v < length g.vectors
    → All (λ l. l.tip < length g.vectors) (chain_of (graph_described (described_by g)) v)
tips_within g rise ends v within =
    let events = map (event_among g.vectors) g.moves in
    subst (All (λ (l : Link). l.tip < length g.vectors)) (sym (lists_of_graph g rise ends v within))
    (λ k d h. tip_of_link (length g.vectors) g.directed events v (get_or (list_of g.directed events v) k d) (events_within g.vectors g.moves rise ends) (Contains-get_or (list_of g.directed events v) k d h))
