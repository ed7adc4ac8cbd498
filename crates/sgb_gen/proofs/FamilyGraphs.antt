-- The graph of a family, made step by step, is the one that is described.
use Rattle.std.proofs.Common.{◌≡◌, ℕ, Bool, true, List, [], ◌∷◌, length, map, Result, Ok, refl, sym, ap, subst, ◌∙◌, arith}
use Rattle.std.specs.List.{All}
use Rattle.std.proofs.lemmas.List.Elements.{All-cons, All-head, All-map, All-nil, All-tail}
use Rattle.std.specs.Result.{IsErr, IsErrAnd}
use Rattle.std.proofs.lemmas.List.{length-map}
use Rattle.sgb_vec.specs.Names.{name_of_vector}
use Rattle.sgb_vec.specs.declared.panics.Panic.{Panic}
use Rattle.sgb_vec.specs.declared.panics.Panic.TheVariants.{NoRoom}
use Rattle.sgb_graph.specs.Graphs.{GraphData, ends_of}
use Rattle.sgb_graph.specs.Events.{Event, HasArcsOf, HasEndsBelow}
use Rattle.sgb_graph.specs.Descriptions.{Description, IsAnswerOf, IsGraphOf}
use Rattle.sgb_graph.specs.Growth.{new_graph, with_id}
use Rattle.sgb_graph.specs.Made.{no_fields}
use Rattle.sgb_graph.proofs.AddedEvents.{adds-new, adds-new_fields, new_names, new_fields}
use Rattle.sgb_graph.proofs.Lists.{map-map}
use Rattle.sgb_graph.specs.Growth.{AddsEvents}
use Rattle.sgb_gen.specs.inner.VectorGraphs.{HasCoordinates}
use Rattle.sgb_graph.specs.Graphs.{HasNoFields}
use Rattle.sgb_moves.specs.VectorMoves.{Move}
use Rattle.sgb_gen.specs.VectorGraphs.{event_among, family_graph}

-- no fields are used where only arcs were added
pub fields_unused : (vectors : List (List ℕ)) (directed : Bool) (old new : GraphData) (events : List Event) → old ≡ new_graph (map name_of_vector vectors) → AddsEvents directed old new events → map (λ v. v.util) new.vertices ≡ map (λ v. no_fields) vectors
fields_unused vectors directed old new events e h =
    h.rest.fields ∙ ap (λ g. map (λ v. v.util) g.vertices) e ∙ new_fields (map name_of_vector vectors) ∙ map-map (λ t. no_fields) name_of_vector vectors

-- a fact of what is made of each element
All-from_map : {X Y : Type 0} (P : Y → Type 0) (f : X → Y) (xs : List X) → All P (map f xs) → All (λ x. P (f x)) xs
All-from_map P f [] h = All-nil (λ x. P (f x))
All-from_map P f (x ∷ xs) h = All-cons (λ x. P (f x)) x xs (All-head P (f x) (map f xs) h) (All-from_map P f xs (All-tail P (f x) (map f xs) h))

-- arcs stay where the coordinates are put and the id is changed
arcs_stay : (directed : Bool) (events : List Event) (vectors : List (List ℕ)) (old new : GraphData) (id : List ℕ) → HasArcsOf directed events old → HasCoordinates vectors old new → HasArcsOf directed events (with_id id new)
arcs_stay directed events vectors old new id h k =
    let size : length new.vertices ≡ length old.vertices = sym (length-map new.vertices (λ v. v.name)) ∙ ap length k.names ∙ length-map old.vertices (λ v. v.name) in
    record {
      count = k.count ∙ h.count;
      tips = ap (map (λ r. r.tip)) k.records ∙ h.tips;
      lengths = ap (map (λ r. r.len)) k.records ∙ h.lengths;
      lists = λ v within. k.chains v ∙ h.lists v (omega arith);
      within = subst (λ n. All (HasEndsBelow n) events) (sym size) h.within;
      ends = All-from_map (λ first. ends_of new.records first ≡ true) (λ v. v.arcs) new.vertices
          (subst (All (λ first. ends_of new.records first ≡ true)) (sym k.firsts)
          (subst (λ rs. All (λ first. ends_of rs first ≡ true) (map (λ v. v.arcs) old.vertices)) (sym k.records)
          (All-map (λ first. ends_of old.records first ≡ true) (λ v. v.arcs) old.vertices h.ends)));
    }

-- the graph of a family: names, then arcs, coordinates and the id
family_made : (id : List ℕ) (directed : Bool) (vectors : List (List ℕ)) (moves : List Move) (fresh grown placed : GraphData) → fresh ≡ new_graph (map name_of_vector vectors) → AddsEvents directed fresh grown (map (event_among vectors) moves) → HasCoordinates vectors grown placed → IsGraphOf (family_graph id directed vectors moves) (with_id id placed)
unfolding family_graph
family_made id directed vectors moves fresh grown placed e h k =
    let events = map (event_among vectors) moves in
    let texts = map name_of_vector vectors in
    let added : AddsEvents directed (new_graph texts) grown events = subst (λ g. AddsEvents directed g grown events) e h in
    record {
      id = refl;
      kinds = k.kinds;
      util = k.util ∙ added.rest.util;
      names = k.names ∙ added.rest.names ∙ new_names texts;
      fields = k.fields;
      arcs = arcs_stay directed events vectors grown placed id (adds-new directed texts events grown added) k;
      arc_fields = subst (All HasNoFields) (sym k.records) (adds-new_fields directed texts events grown added);
    }

-- the same from the names of vectors that are read, to the id that is set
pub graph_made : (id number : List ℕ) (directed : Bool) (vectors read : List (List ℕ)) (moves : List Move) (names : List (List ℕ)) (fresh grown placed new : GraphData) → read ≡ vectors → names ≡ map name_of_vector read → fresh ≡ new_graph names
    → AddsEvents directed fresh grown (map (event_among vectors) moves) → HasCoordinates read grown placed → new ≡ with_id number placed → number ≡ id → IsGraphOf (family_graph id directed vectors moves) new
graph_made id number directed vectors read moves names fresh grown placed new same named made added put written id_is =
    rw (written, id_is) (family_made id directed vectors moves fresh grown placed (made ∙ ap new_graph (named ∙ ap (map name_of_vector) same)) added (subst (λ vs. HasCoordinates vs grown placed) same put))

-- out of memory is an answer for any graph
pub no_room : (d : Description) (r : Result GraphData Panic) (P : Panic → Type 0) → IsErr r × IsErrAnd r P → ((e : Panic) → P e → e ≡ NoRoom) → IsAnswerOf (Ok d) r
no_room d r P h n = grind (arith)
