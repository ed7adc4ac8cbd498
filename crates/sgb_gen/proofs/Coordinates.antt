-- The coordinates in the utility fields of the vertices, vertex by vertex.
use Rattle.std.proofs.Common.{◌≡◌, ℕ, zero, suc, ◌+◌, ◌<◌, pos, List, [], ◌∷◌, ◌++◌, length, map, take, drop, subst, add-one, slice_index, Some, refl, sym, ap, ◌∙◌, arith, append_assoc}
use Rattle.std.specs.List.{slice_get}
use Rattle.std.proofs.lemmas.List.{length-map, map-append, length-take-le}
use Rattle.std.proofs.lemmas.Option.{slice_get_within}
use Rattle.sgb_graph.specs.Graphs.{GraphData, chain_of}
use Rattle.sgb_graph.specs.Growth.{at_place, with_ints, with_number_kinds, some_numbers, put_numbers}
use Rattle.sgb_graph.specs.Made.{no_kinds, no_fields}
use Rattle.sgb_graph.specs.declared.fields.Kind.{Kind}
use Rattle.sgb_graph.specs.declared.fields.Util.{Util}
use Rattle.sgb_graph.specs.declared.fields.Vertex.{Vertex}
use Rattle.sgb_graph.proofs.Numbers.{ints_firsts}
use Rattle.sgb_gen.specs.VectorGraphs.{fields_of_vector}
use Rattle.sgb_gen.proofs.FamilyWalks.{drop_at_vector, take_at_vector}

-- an element after others changed
at_place-append : {X : Type 0} (f : X → X) (xs : List X) (y : X) (ys : List X) (k : ℕ) → k ≡ length xs → at_place f k (xs ++ y ∷ ys) ≡ xs ++ f y ∷ ys
at_place-append f [] y ys k e = ap (λ n. at_place f n (y ∷ ys)) e
at_place-append f (x ∷ xs) y ys zero e = absurd (omega arith)
at_place-append f (x ∷ xs) y ys (suc k) e = ap (λ zs. x ∷ zs) (at_place-append f xs y ys k (omega arith))

-- the fields of a vertex with 0 for each coordinate
abbrev zero_fields : List Util
zero_fields = fields_of_vector []

-- the kinds and fields with the coordinates of the first u vectors
abbrev kinds_so_far : ℕ → List Kind
kinds_so_far zero = no_kinds
kinds_so_far (suc u) = with_number_kinds no_kinds

abbrev fields_so_far : ℕ → List (List ℕ) → List (List Util)
fields_so_far zero vectors = map (λ v. no_fields) vectors
fields_so_far (suc u) vectors = map fields_of_vector (take (suc u) vectors) ++ map (λ v. zero_fields) (drop (suc u) vectors)

-- the first u vertices have their coordinates
pub record HasSomeCoordinates (vectors : List (List ℕ)) (u : ℕ) (old new : GraphData) : Type 0 where
  pub id : new.id ≡ old.id
  pub count : new.m ≡ old.m
  pub kinds : new.kinds ≡ kinds_so_far u
  pub util : new.util ≡ old.util
  pub records : new.records ≡ old.records
  pub names : map (λ v. v.name) new.vertices ≡ map (λ v. v.name) old.vertices
  pub fields : map (λ v. v.util) new.vertices ≡ fields_so_far u vectors
  pub firsts : map (λ v. v.arcs) new.vertices ≡ map (λ v. v.arcs) old.vertices
  pub chains : (v : ℕ) → chain_of new v ≡ chain_of old v

-- a map that gives the same for each element
pub map-each : {X Y Z : Type 0} (f : Y → Z) (g : X → Y) (h : X → Z) → ((x : X) → f (g x) ≡ h x) → (xs : List X) → map f (map g xs) ≡ map h xs
map-each f g h e [] = refl
map-each f g h e (x ∷ xs) = rw (e x, map-each f g h e xs) refl

-- with a number for each coordinate
some_so_far : (u : ℕ) (vectors : List (List ℕ)) → map some_numbers (fields_so_far u vectors) ≡ map fields_of_vector (take u vectors) ++ map (λ v. zero_fields) (drop u vectors)
some_so_far zero vectors = map-each some_numbers (λ v. no_fields) (λ v. zero_fields) (λ v. refl) vectors
some_so_far (suc u) vectors = grind (arith, map-append, zero_fields, map-each)

-- the coordinates of vector u are put
fields-more : (vectors : List (List ℕ)) (u : ℕ) (v : List ℕ) (vs : List Vertex) → slice_get vectors u ≡ Some v → map (λ w. w.util) vs ≡ fields_so_far u vectors → at_place (put_numbers (pos (slice_index v 0)) (pos (slice_index v 1)) (pos (slice_index v 2))) u (map (λ w. some_numbers w.util) vs) ≡ fields_so_far (suc u) vectors
fields-more vectors u v vs at e =
    let put : List Util → List Util = put_numbers (pos (slice_index v 0)) (pos (slice_index v 1)) (pos (slice_index v 2)) in
    let prefix = map fields_of_vector (take u vectors) in
    let back = map (λ w. zero_fields) (drop (suc u) vectors) in
    let within : u < length vectors = slice_get_within vectors u v at in
    let next : drop u vectors ≡ v ∷ drop (suc u) vectors = drop_at_vector vectors u v at ∙ ap (λ n. v ∷ drop n vectors) (add-one u) in
    let size : u ≡ length prefix = sym (length-map (take u vectors) fields_of_vector ∙ length-take-le u vectors (omega arith)) in
    let more : take (suc u) vectors ≡ take u vectors ++ v ∷ [] = ap (λ n. take n vectors) (sym (add-one u)) ∙ take_at_vector vectors u v at in
    ap (at_place put u) (sym (map-each some_numbers (λ w. w.util) (λ w. some_numbers w.util) (λ w. refl) vs) ∙ ap (map some_numbers) e ∙ some_so_far u vectors ∙ ap (λ ws. prefix ++ map (λ w. zero_fields) ws) next)
    ∙ at_place-append put prefix zero_fields back u size
    ∙ sym (ap (λ ws. map fields_of_vector ws ++ back) more ∙ ap (λ fs. fs ++ back) (map-append fields_of_vector (take u vectors) (v ∷ [])) ∙ append_assoc prefix (fields_of_vector v ∷ []) back)

-- the kinds with the coordinates of one vertex more
kinds-more : (u : ℕ) → with_number_kinds (kinds_so_far u) ≡ kinds_so_far (suc u)
kinds-more zero = refl
kinds-more (suc u) = refl

-- what the coordinates of a vector, put into the fields of vertex u, leave
pub record PutsCoordinates (u : ℕ) (v : List ℕ) (old new : GraphData) : Type 0 where
  pub whole : new ≡ with_ints old u (pos (slice_index v 0)) (pos (slice_index v 1)) (pos (slice_index v 2))
  pub chains : (w : ℕ) → chain_of new w ≡ chain_of old w
  pub names : map (λ w. w.name) new.vertices ≡ map (λ w. w.name) old.vertices
  pub fields : map (λ w. w.util) new.vertices
      ≡ at_place (put_numbers (pos (slice_index v 0)) (pos (slice_index v 1)) (pos (slice_index v 2))) u (map (λ w. some_numbers w.util) old.vertices)

-- one more vertex has its coordinates
pub coordinates-more : (vectors : List (List ℕ)) (u : ℕ) (v : List ℕ) (old now new : GraphData) → slice_get vectors u ≡ Some v → HasSomeCoordinates vectors u old now → PutsCoordinates u v now new → HasSomeCoordinates vectors (u + 1) old new
coordinates-more vectors u v old now new at h k =
    subst (λ n. HasSomeCoordinates vectors n old new) (sym (add-one u)) (record {
      id = ap (λ g. g.id) k.whole ∙ h.id;
      count = ap (λ g. g.m) k.whole ∙ h.count;
      kinds = ap (λ g. g.kinds) k.whole ∙ ap with_number_kinds h.kinds ∙ kinds-more u;
      util = ap (λ g. g.util) k.whole ∙ h.util;
      records = ap (λ g. g.records) k.whole ∙ h.records;
      names = k.names ∙ h.names;
      fields = k.fields ∙ fields-more vectors u v now.vertices at h.fields;
      firsts = ap (λ g. map (λ w. w.arcs) g.vertices) k.whole
          ∙ ints_firsts now u (pos (slice_index v 0)) (pos (slice_index v 1)) (pos (slice_index v 2)) ∙ h.firsts;
      chains = λ w. k.chains w ∙ h.chains w;
    })
