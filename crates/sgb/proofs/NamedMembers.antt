-- The members of a family by their names: no two have the same one.
use Rattle.std.proofs.Common.{◌≡◌, ◌≢◌, ℕ, ◌<◌, true, List, [], length, drop, get_or, map, Some, None, refl, sym, inl, inr, arith, rules}
use Rattle.std.specs.List.{Contains, flat_map, slice_get}
use Rattle.std.specs.Cmp.Lexicographic.{bytes_decides}
use Rattle.std.proofs.lemmas.Bool.{cases_Bool}
use Rattle.std.proofs.lemmas.List.{drop-map, get_or-map, get_or_default, length-map}
use Rattle.std.proofs.lemmas.Option.{slice_get-map, slice_get_read}
use Rattle.sgb_vec.specs.Lexicographic.{IsBefore, IsRising}
use Rattle.sgb_vec.specs.Names.{name_of_vector}
use Rattle.sgb_vec.specs.NamedVectors.{IsVector}
use Rattle.sgb_vec.proofs.NameReading.{vector_of-name}
use Rattle.sgb_vec.proofs.RisingLists.{place-once}
use Rattle.sgb_vec.proofs.SumSuccessors.{IsBefore-asymmetric}
use Rattle.sgb_gen.specs.VectorGraphs.{vertex_among}
use Rattle.sgb_gen.proofs.RisingVectors.{vertex_in_rising}
use Rattle.sgb.specs.inner.Named.{vertex_named}
use Rattle.sgb.specs.Texts.{name_line, name_lines}
use Rattle.sgb.proofs.Named.{NoneBefore, has_name, named_here, named_nowhere}

-- vectors of the same name are the same
one_name : (x y : List ℕ) → IsVector x → IsVector y → name_of_vector x ≡ name_of_vector y → x ≡ y
one_name x y is also same = grind (arith, vector_of-name x is, vector_of-name y also)

-- the lines of the names from a place on are those of the vectors from there on
pub lines_of_rest : (members rest : List (List ℕ)) (k : ℕ) → rest ≡ drop k members → name_lines (map name_of_vector members) k ≡ flat_map name_line (map name_of_vector rest)
unfolding name_lines
lines_of_rest members rest k same = grind (arith, drop-map)

module _ (members : List (List ℕ)) (vectors : (v : List ℕ) → Contains members v → IsVector v) where
  -- the name at a place
  name_at : (k : ℕ) → k < length members → get_or (map name_of_vector members) k [] ≡ name_of_vector (get_or members k [])
  name_at k within = get_or-map name_of_vector members k [] [] within

  member_at : (k : ℕ) → k < length members → Contains members (get_or members k [])
  member_at k within = (k, within, get_or_default members k (get_or members k []) [] within)

  -- a name that no member has
  none_named : (name : List ℕ) → ((y : List ℕ) → Contains members y → name_of_vector y ≢ name) → vertex_named name (map name_of_vector members) ≡ None
  none_named name none = search (rules, named_nowhere, length-map, name_at)

  -- where no vector at all has the name, no member has it
  pub no_vector_named : (name : List ℕ) → ((v : List ℕ) → IsVector v → name_of_vector v ≢ name) → vertex_named name (map name_of_vector members) ≡ None
  no_vector_named name none = none_named name (λ y there. none y (vectors y there))

  -- the name of a vector that is no member is that of no member
  pub no_member_named : (x name : List ℕ) → IsVector x → name_of_vector x ≡ name → (Contains members x → ⊥) → vertex_named name (map name_of_vector members) ≡ None
  no_member_named x name is named stranger = none_named name (λ y there same. grind (arith, one_name y x))

  -- the name of a member is that of its vertex first
  pub member_named : IsRising members → (x name : List ℕ) → IsVector x → name_of_vector x ≡ name → Contains members x
      → vertex_named name (map name_of_vector members) ≡ Some (vertex_among members x)
  member_named rising x name is named (i, within, at) =
      let there : slice_get members i ≡ Some x = slice_get_read members (length members) i x refl within (sym at) in
      let here : slice_get (map name_of_vector members) i ≡ Some (name_of_vector x) = grind (arith, slice_get-map) in
      let own : has_name name (name_of_vector x) ≡ true = grind (arith, bytes_decides) in
      let earlier : NoneBefore (map name_of_vector members) name i = λ k h. elim (cases_Bool (has_name name (get_or (map name_of_vector members) k []))) [
        | inl same ↦
            let equal = (bytes_decides (get_or (map name_of_vector members) k []) name).0 same in
            let alike = one_name (get_or members k []) x (vectors (get_or members k []) (member_at k (omega (arith, within, h)))) is (grind (arith, name_at)) in
            let at_k = slice_get_read members (length members) k x refl (omega (arith, within, h)) (grind (arith, get_or_default)) in
            absurd (omega (arith, h, place-once IsBefore members x k i IsBefore-asymmetric rising at_k there))
        | inr differs ↦ differs
      ] in
      grind (arith, named_here, vertex_in_rising)
