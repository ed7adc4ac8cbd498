-- The integers of a field, vertex by vertex.
use Rattle.std.proofs.Common.{◌≡◌, ℕ, Bool, true, false, take, get_or, ℤ, pos, ◌+◌, ◌<◌, ◌≤◌, List, [], ◌∷◌, length, map, drop, set, refl, sym, ap, ◌∙◌, Some, arith}
use Rattle.std.specs.Prelude.{slice_get, slice_index}
use Rattle.std.proofs.lemmas.List.{at_drop_more, drop_all, get_or-drop, get_or-take, length-drop, length-map, length-take, length-take-le}
use Rattle.std.proofs.lemmas.Option.{get_or_from_slice_get, slice_get-get_or, slice_get_within}
use Rattle.sgb_graph.specs.Graphs.{GraphData}
use Rattle.sgb_graph.specs.declared.fields.Vertex.{Vertex}
use Rattle.std.specs.Bool.{OnTrue, OnFalse}
use Rattle.sgb_graph.specs.declared.fields.Kind.{Kind}
use Rattle.sgb_graph.specs.declared.fields.Kind.TheVariants.{I}
use Rattle.sgb_arrays.specs.inner.Kinds.{is_int_kind}
use Rattle.sgb_arrays.specs.Fields.{ints_of}
use Rattle.sgb_arrays.specs.inner.Fields.{int_at}
use Rattle.sgb_arrays.specs.inner.Puts.{put_from}
use Rattle.sgb_arrays.proofs.PutValues.{put_from-all}

int_kind : (k : Kind) → is_int_kind k ≡ true → k ≡ I
int_kind I e = refl
int_kind _ e = absurd cc

-- a field of the vertices holds integers, or it does not
pub kind_known : (b : Bool) (all kinds : List Kind) (field : ℕ) (d : Kind) → kinds ≡ all → field < 6 → field < length kinds → b ≡ is_int_kind (get_or kinds field d)
    → OnTrue b (slice_get (take 6 all) field ≡ Some I) × OnFalse b (slice_get (take 6 all) field ≡ Some I → ⊥)
kind_known b all kinds field d same below within is = by b is
  where
    there : slice_get (take 6 all) field ≡ Some (get_or kinds field d)
    there = grind (arith, slice_get-get_or, length-take, get_or-take)

    by : (t : Bool) → t ≡ is_int_kind (get_or kinds field d) → OnTrue t (slice_get (take 6 all) field ≡ Some I) × OnFalse t (slice_get (take 6 all) field ≡ Some I → ⊥)
    by true holds = (there ∙ ap Some (int_kind (get_or kinds field d) (sym holds)), tt)
    by false other = (tt, λ int. let at : Some (get_or kinds field d) ≡ Some I = cc there in absurd (let no : is_int_kind I ≡ false = cc in cc))

-- of a run of a list so many are there, each at its place
pub length-run : {X : Type 0} (xs : List X) (first count : ℕ) → first + count ≤ length xs → length (take count (drop first xs)) ≡ count
length-run xs first count within = length-take-le count (drop first xs) (omega (arith, length-drop first xs))

pub run_at : {X : Type 0} (xs : List X) (first count k : ℕ) (x : X) → k < count → first + count ≤ length xs → slice_get xs (first + k) ≡ Some x → slice_get (take count (drop first xs)) k ≡ Some x
run_at xs first count k x below within there =
    slice_get-get_or (take count (drop first xs)) k x (omega (arith, length-run xs first count within))
    ∙ ap Some (get_or-take count (drop first xs) k x below ∙ get_or-drop first xs k x ∙ get_or_from_slice_get xs (first + k) x x there)

-- the value of the next one is put
pub value_put : {X : Type 0} (f : X → ℤ) (vs : List X) (k : ℕ) (x : X) (i : ℤ) (now all : List ℤ) → k < length vs → slice_get vs k ≡ Some x → i ≡ f x
    → put_from k (map f (drop k vs)) now ≡ all → put_from (k + 1) (map f (drop (k + 1) vs)) (set now k i) ≡ all
value_put f vs k x i now all within at is whole =
    let there = get_or_from_slice_get vs k x x at in
    let first = at_drop_more (λ xs. map f xs) vs k x within in
    grind (arith, set, there, first)

-- none is left, so all are put
pub values_put : {X : Type 0} (f : X → ℤ) (vs : List X) (k : ℕ) (now old : List ℤ) → length vs ≤ k → length old ≡ length vs
    → put_from k (map f (drop k vs)) now ≡ put_from 0 (map f vs) old → now ≡ map f vs
values_put f vs k now old past size whole = grind (arith, drop_all, put_from-all, length-map)

-- all of them are left
pub values_begun : {X : Type 0} (f : X → ℤ) (vs : List X) (now : List ℤ) → put_from 0 (map f (drop 0 vs)) now ≡ put_from 0 (map f vs) now
values_begun f vs now = refl
