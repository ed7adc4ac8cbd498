-- What is kept of vertices, and what is seen of it.
use Rattle.std.proofs.Common.{rules, ◌≡◌, ◌<◌, ◌+◌, ℕ, zero, suc, ℤ, Option, Some, None, List, [], ◌∷◌, ◌++◌, length, map, replicate, get_or, set, take, refl, ap, sym, subst, ◌∙◌, arith}
use Rattle.std.specs.Prelude.{slice_get, option_map}
use Rattle.std.proofs.Math.ListN.{get_or-map}
use Rattle.std.proofs.lemmas.List.{length-map, length_push, length-replicate, length-set, map_push, take_more}
use Rattle.std.proofs.lemmas.Option.{get_or_from_slice_get, slice_get-map, slice_get_within}
use Rattle.sgb_graph.specs.inner.Columns.{column_kind, values}
use Rattle.sgb_graph.specs.Growth.{at_place, first_arc, new_vertex, number_or_zero, put_numbers, some_numbers, with_first, with_numbers, with_some_numbers}
use Rattle.sgb_graph.specs.inner.KeptRecords.{kept_number}
use Rattle.sgb_graph.specs.inner.KeptVertices.{AreColumns, AreIntegers, AreKept, HaveValues, HoldNumbers, KeptVertices, bare_vertex, combined, field_columns, field_kinds, kept_items, kept_vertices, number_columns, put_columns, rows, with_fields, with_row}
use Rattle.sgb_graph.specs.Made.{no_fields}
use Rattle.sgb_graph.specs.declared.columns.Column.{Column}
use Rattle.sgb_graph.specs.declared.fields.Kind.{Kind}
use Rattle.sgb_graph.specs.declared.fields.Kind.TheVariants.{Z, I}
use Rattle.sgb_graph.specs.declared.fields.Util.{Util}
use Rattle.sgb_graph.specs.declared.fields.Util.TheVariants.{Nothing, Int}
use Rattle.sgb_graph.specs.declared.fields.Vertex.{Vertex}
use Rattle.sgb_graph.specs.declared.vertices.fields.Fields.{Fields}
use Rattle.sgb_graph.proofs.ColumnValues.{HasPlace-below, unused}
use Rattle.sgb_graph.proofs.Lists.{length-at_place, map-map}
use Rattle.sgb_graph.proofs.Tables.{at_place-at_place, at_place-same, at_place-set, combined-at_first, combined-at_second, combined-map_second, combined-push, combined_at, length-combined, length-rows, rows-at, rows-map, rows-push, rows-replicate}

-- the vertex with these fields
abbrev put_fields : Vertex → List Util → Vertex
put_fields x fields = record x { util = fields }

-- as many rows as vertices
pub same_length : (names : List (List ℕ)) (firsts : List ℕ) (f : Fields) → AreKept names firsts f → length (combined bare_vertex names firsts) ≡ length (rows (length names) (field_columns (length names) f))
same_length names firsts f kept =
    length-combined bare_vertex names firsts (sym kept.count) ∙ (kept.count ∙ sym (length-rows (length names) (field_columns (length names) f) kept.columns))

-- the number of vertices that are seen
pub length-kept : (names : List (List ℕ)) (firsts : List ℕ) (f : Fields) (seen : KeptVertices) → AreKept names firsts f → kept_vertices names firsts f ≡ seen → length seen.items ≡ length names
length-kept names firsts f seen kept view =
    ap (λ (g : KeptVertices). length g.items) (sym view)
    ∙ (length-combined put_fields (combined bare_vertex names firsts) (rows (length names) (field_columns (length names) f)) (same_length names firsts f kept)
    ∙ length-rows (length names) (field_columns (length names) f) kept.columns)

-- and of their first records
pub length-firsts : (names : List (List ℕ)) (firsts : List ℕ) (f : Fields) (seen : KeptVertices) → AreKept names firsts f → kept_vertices names firsts f ≡ seen → length seen.items ≡ length firsts
length-firsts names firsts f seen kept view = length-kept names firsts f seen kept view ∙ sym kept.count

-- a vertex that is seen
pub kept_at : (names : List (List ℕ)) (firsts : List ℕ) (f : Fields) (v : ℕ) (name : List ℕ) (k : ℕ) (r : List Util) → slice_get names v ≡ Some name → slice_get firsts v ≡ Some k
    → slice_get (rows (length names) (field_columns (length names) f)) v ≡ Some r → slice_get (kept_items names firsts f) v ≡ Some (record (bare_vertex name k) { util = r })
kept_at names firsts f v name k r one two other =
    combined_at put_fields (combined bare_vertex names firsts) (rows (length names) (field_columns (length names) f)) v (bare_vertex name k) r (combined_at bare_vertex names firsts v name k one two) other

-- what does not depend on the fields
with_fields-other : {Y : Type 0} (h : Vertex → Y) (xs : List Vertex) (rs : List (List Util)) → ((x : Vertex) (r : List Util) → h (record x { util = r }) ≡ h x) → length xs ≡ length rs → map h (with_fields xs rs) ≡ map h xs
with_fields-other h [] rs other e = refl
with_fields-other h (x ∷ xs) [] other e = absurd (omega (arith, e))
with_fields-other h (x ∷ xs) (r ∷ rs) other e =
    ap (λ y. y ∷ map h (with_fields xs rs)) (other x r) ∙ ap (λ ys. h x ∷ ys) (with_fields-other h xs rs other (omega (arith, e)))

-- bare vertices have these names and first records
bare_names : (names : List (List ℕ)) (firsts : List ℕ) → length firsts ≡ length names → map (λ x. x.name) (combined bare_vertex names firsts) ≡ names
bare_names [] firsts e = refl
bare_names (name ∷ names) [] e = absurd (omega (arith, e))
bare_names (name ∷ names) (k ∷ firsts) e = ap (λ xs. name ∷ xs) (bare_names names firsts (omega (arith, e)))

bare_firsts : (names : List (List ℕ)) (firsts : List ℕ) → length firsts ≡ length names → map (λ x. x.arcs) (combined bare_vertex names firsts) ≡ map kept_number firsts
bare_firsts [] [] e = refl
bare_firsts (name ∷ names) (k ∷ firsts) e = ap (λ xs. kept_number k ∷ xs) (bare_firsts names firsts (omega (arith, e)))
bare_firsts _ _ e = absurd (omega (arith, e))

-- the names
pub kept_names : (names : List (List ℕ)) (firsts : List ℕ) (f : Fields) → AreKept names firsts f → map (λ x. x.name) (kept_items names firsts f) ≡ names
kept_names names firsts f kept = search (rules, with_fields-other, same_length, bare_names)

-- the first records
kept_firsts : (names : List (List ℕ)) (firsts : List ℕ) (f : Fields) → AreKept names firsts f → map (λ x. x.arcs) (kept_items names firsts f) ≡ map kept_number firsts
kept_firsts names firsts f kept = search (rules, with_fields-other, same_length, bare_firsts)

-- the first record of a vertex, out of the list of all
first_of : (vertices : List Vertex) (v : ℕ) (first : Option ℕ) → slice_get (map (λ x. x.arcs) vertices) v ≡ Some first → first_arc vertices v ≡ first
first_of vertices v first is = grind (arith, slice_get-map)

-- that of a vertex that is kept
pub kept_first : (names : List (List ℕ)) (firsts : List ℕ) (f : Fields) (v k : ℕ) → AreKept names firsts f → slice_get firsts v ≡ Some k → first_arc (kept_items names firsts f) v ≡ kept_number k
kept_first names firsts f v k kept is =
    first_of (kept_items names firsts f) v (kept_number k)
    (ap (λ fs. slice_get fs v) (kept_firsts names firsts f kept) ∙ (slice_get-map kept_number firsts v ∙ ap (option_map kept_number) is))

-- its name
pub kept_name : (names : List (List ℕ)) (firsts : List ℕ) (f : Fields) (v : ℕ) (name : List ℕ) → AreKept names firsts f → slice_get names v ≡ Some name → slice_get (map (λ x. x.name) (kept_items names firsts f)) v ≡ Some name
kept_name names firsts f v name kept is = rw (kept_names names firsts f kept) is

-- all fields have each place
pub have_values : (n k : ℕ) (f : Fields) → AreColumns n (field_columns n f) → k < n → HaveValues k f
have_values n k f kept below = search (rules, HasPlace-below)

-- vertices without fields
with_no_fields : (names : List (List ℕ)) (k : ℕ) → kept_number k ≡ None → with_fields (combined bare_vertex names (replicate (length names) k)) (replicate (length names) no_fields) ≡ map new_vertex names
with_no_fields [] k none = refl
with_no_fields (x ∷ names) k none =
    ap (λ first. record (new_vertex x) { arcs = first } ∷ with_fields (combined bare_vertex names (replicate (length names) k)) (replicate (length names) no_fields)) none
    ∙ ap (λ vertices. new_vertex x ∷ vertices) (with_no_fields names k none)

-- columns of one element
replicate_whole : {X : Type 0} (n k : ℕ) (x : X) → AreColumns n (replicate k (replicate n x))
replicate_whole n zero x = tt
replicate_whole n (suc k) x = (length-replicate n x, replicate_whole n k x)

-- a column that is not used
unused_values : (n : ℕ) (c : Column) → column_kind c ≡ Z → values n c ≡ replicate n Nothing
unused_values n c e = ap (values n) (unused c e)

-- fields that are not used
unused_columns : (n : ℕ) (f : Fields) → field_kinds f ≡ replicate 6 Z → field_columns n f ≡ replicate 6 (replicate n Nothing)
unused_columns n f e = search (rules, unused_values)

-- vertices of names are kept
pub unused_kept : (names : List (List ℕ)) (firsts : List ℕ) (f : Fields) → length firsts ≡ length names → field_kinds f ≡ replicate 6 Z → AreKept names firsts f
unused_kept names firsts f count e = record {
  count = count;
  columns = subst (AreColumns (length names)) (sym (unused_columns (length names) f e)) (replicate_whole (length names) 6 Nothing);
}

-- and seen
pub unused_items : (names : List (List ℕ)) (firsts : List ℕ) (k : ℕ) (f : Fields) → kept_number k ≡ None → firsts ≡ replicate (length names) k → field_kinds f ≡ replicate 6 Z → kept_items names firsts f ≡ map new_vertex names
unused_items names firsts k f none all e =
    let bare : List ℕ → List Vertex = λ ks. combined bare_vertex names ks in
    ap (λ ks. with_fields (bare ks) (rows (length names) (field_columns (length names) f))) all
    ∙ (ap (λ columns. with_fields (bare (replicate (length names) k)) (rows (length names) columns)) (unused_columns (length names) f e)
    ∙ (ap (with_fields (bare (replicate (length names) k))) (rows-replicate (length names) 6 Nothing) ∙ with_no_fields names k none))

-- another first record is kept
pub first_kept : (v k : ℕ) (names : List (List ℕ)) (firsts : List ℕ) (f : Fields) → AreKept names firsts f → AreKept names (set firsts v k) f
first_kept v k names firsts f kept = record { count = length-set firsts v k ∙ kept.count; columns = kept.columns }

-- a first record that is put into a list of them
bare_put : (v k j : ℕ) (names : List (List ℕ)) (firsts : List ℕ) → kept_number k ≡ Some j → combined bare_vertex names (set firsts v k) ≡ with_first j v (combined bare_vertex names firsts)
bare_put v k j [] firsts is = refl
bare_put v k j (name ∷ names) [] is = refl
bare_put zero k j (name ∷ names) (i ∷ firsts) is = ap (λ o. record (bare_vertex name i) { arcs = o } ∷ combined bare_vertex names firsts) is
bare_put (suc v) k j (name ∷ names) (i ∷ firsts) is = ap (λ xs. bare_vertex name i ∷ xs) (bare_put v k j names firsts is)

-- is what is seen
pub first_put : (v k j : ℕ) (names : List (List ℕ)) (firsts : List ℕ) (f : Fields) → kept_number k ≡ Some j → kept_items names (set firsts v k) f ≡ with_first j v (kept_items names firsts f)
first_put v k j names firsts f is =
    let led : Vertex → Vertex = λ x. record x { arcs = Some j } in
    ap (λ xs. with_fields xs (rows (length names) (field_columns (length names) f))) (bare_put v k j names firsts is)
    ∙ combined-at_first put_fields led led v (combined bare_vertex names firsts) (rows (length names) (field_columns (length names) f)) (λ x row. refl)

-- the vertex with its fields changed
abbrev with_util : (List Util → List Util) → Vertex → Vertex
with_util h x = record x { util = h x.util }

-- a column changed, which keeps its length
columns_at : (f : List Util → List Util) (n k : ℕ) (columns : List (List Util)) → ((us : List Util) → length (f us) ≡ length us) → AreColumns n columns → AreColumns n (at_place f k columns)
columns_at f n k [] same are = tt
columns_at f n zero (column ∷ columns) same are = (same column ∙ are.0, are.1)
columns_at f n (suc k) (column ∷ columns) same are = (are.0, columns_at f n k columns same are.1)

-- numbers put into a vertex keep the columns
number_whole : (n : ℕ) (columns : List (List Util)) → AreColumns n columns → AreColumns n (number_columns columns)
number_whole n columns are = search (rules, columns_at, length-map)

put_whole : (n v : ℕ) (x y z : ℤ) (columns : List (List Util)) → AreColumns n columns → AreColumns n (put_columns v x y z columns)
put_whole n v x y z columns are = search (rules, columns_at, length-at_place)

-- the rows of columns with a number in each place
number_rows : (n : ℕ) (columns : List (List Util)) → rows n (number_columns columns) ≡ map some_numbers (rows n columns)
number_rows n columns = simp (rows-map, map-map)

-- and with these
put_rows : (n v : ℕ) (x y z : ℤ) (columns : List (List Util)) → rows n (put_columns v x y z columns) ≡ at_place (put_numbers x y z) v (rows n columns)
put_rows n v x y z columns = simp (rows-at, at_place-at_place) (at_place-same _ (put_numbers x y z) v (rows n columns) (λ r. simp at_place-set))

-- what is kept of vertices whose fields are of these kinds
pub kinds_record : (names : List (List ℕ)) (firsts : List ℕ) (f : Fields) (u v w x y z : Kind) → field_kinds f ≡ u ∷ v ∷ w ∷ x ∷ y ∷ z ∷ []
    → kept_vertices names firsts f ≡ record { u = u; v = v; w = w; x = x; y = y; z = z; items = kept_items names firsts f }
kinds_record names firsts f u v w x y z e = grind (arith)

-- a column of integers has a number in each place
ints_numbers : (n : ℕ) (c : Column) → column_kind c ≡ I → map number_or_zero (values n c) ≡ values n c
ints_numbers n c is = grind (arith, map-map)

-- fields that hold integers are made to
pub held_already : (n : ℕ) (f : Fields) → AreIntegers f → HoldNumbers n f f
held_already n f are = record {
  u = refl;
  v = refl;
  w = refl;
  kinds = are;
  columns = rw (ints_numbers n f.x are.x, ints_numbers n f.y are.y, ints_numbers n f.z are.z) refl;
}

-- the columns stay whole
held_columns : (n : ℕ) (f g : Fields) → AreColumns n (field_columns n f) → HoldNumbers n f g → AreColumns n (field_columns n g)
held_columns n f g are held = subst (AreColumns n) (sym held.columns) (number_whole n (field_columns n f) are)

-- each field has each place then
pub held_values : (n k : ℕ) (f g : Fields) → AreColumns n (field_columns n f) → HoldNumbers n f g → k < n → HaveValues k g
held_values n k f g are held below = have_values n k g (held_columns n f g are held) below

-- the vertices with numbers written
pub record AreWritten (names : List (List ℕ)) (firsts : List ℕ) (f g : Fields) (v : ℕ) (x y z : ℤ) : Type 0 where
  pub whole : AreKept names firsts g
  pub same : kept_vertices names firsts g ≡ record (kept_vertices names firsts f) { x = I; y = I; z = I; items = at_place (with_numbers x y z) v (map with_some_numbers (kept_items names firsts f)) }

-- where the fields f were made to hold integers, as h, and then the numbers put
pub are_written : (names : List (List ℕ)) (firsts : List ℕ) (f h g : Fields) (v : ℕ) (x y z : ℤ) → AreKept names firsts f → HoldNumbers (length names) f h → field_kinds g ≡ field_kinds h
    → ((n : ℕ) → field_columns n g ≡ put_columns v x y z (field_columns n h)) → AreWritten names firsts f g v x y z
are_written names firsts f h g v x y z kept held kinds put =
    let n = length names in
    let bare = combined bare_vertex names firsts in
    let columns = field_columns n f in
    let last : field_columns n g ≡ put_columns v x y z (number_columns columns) = put n ∙ ap (put_columns v x y z) held.columns in
    let table = ap (rows n) last ∙ (put_rows n v x y z (number_columns columns) ∙ ap (at_place (put_numbers x y z) v) (number_rows n columns)) in
    let items : kept_items names firsts g ≡ at_place (with_numbers x y z) v (map with_some_numbers (kept_items names firsts f)) =
    ap (λ rs. with_fields bare rs) table
    ∙ (combined-at_second put_fields (put_numbers x y z) (with_util (put_numbers x y z)) v bare (map some_numbers (rows n columns)) (λ w fields. refl)
    ∙ ap (at_place (with_numbers x y z) v) (combined-map_second put_fields some_numbers (with_util some_numbers) bare (rows n columns) (λ w fields. refl))) in
    let of_kinds : field_kinds g ≡ column_kind f.u ∷ column_kind f.v ∷ column_kind f.w ∷ I ∷ I ∷ I ∷ [] =
    kinds ∙ (rw (held.u, held.v, held.w, held.kinds.x, held.kinds.y, held.kinds.z) refl) in
    record {
      whole = record { count = kept.count; columns = subst (AreColumns n) (sym last) (put_whole n v x y z (number_columns columns) (number_whole n columns kept.columns)) };
      same = kinds_record names firsts g (column_kind f.u) (column_kind f.v) (column_kind f.w) I I I of_kinds
          ∙ ap (λ (xs : List Vertex). record (kept_vertices names firsts f) { x = I; y = I; z = I; items = xs }) items;
    }

-- columns with one row more
columns_row : (n : ℕ) (columns : List (List Util)) (row : List Util) → length columns ≡ length row → AreColumns n columns → AreColumns (suc n) (with_row columns row)
columns_row n [] _ long are = tt
columns_row n (column ∷ columns) [] long are = absurd (omega (arith, long))
columns_row n (column ∷ columns) (x ∷ row) long are = grind (arith, length_push, columns_row n columns row (omega (arith, long)) are.1)

-- one vertex more
pub record AreMore (names : List (List ℕ)) (firsts : List ℕ) (f : Fields) (more : List (List ℕ)) (others : List ℕ) (g : Fields) (x : Vertex) : Type 0 where
  pub whole : AreKept more others g
  pub same : kept_vertices more others g ≡ record (kept_vertices names firsts f) { items = kept_items names firsts f ++ x ∷ [] }

kept_more : (names : List (List ℕ)) (firsts : List ℕ) (k : ℕ) (f g : Fields) (x : Vertex) → AreKept names firsts f → field_kinds g ≡ field_kinds f
    → field_columns (suc (length names)) g ≡ with_row (field_columns (length names) f) x.util → length x.util ≡ 6 → kept_number k ≡ x.arcs → AreMore names firsts f (names ++ x.name ∷ []) (firsts ++ k ∷ []) g x
kept_more names firsts k f g x kept kinds columns six arcs =
    let n = length names in
    let old = field_columns n f in
    let bare = combined bare_vertex names firsts in
    let long : length (names ++ x.name ∷ []) ≡ suc n = omega (arith, length_push names x.name) in
    let table = ap (λ m. rows m (field_columns m g)) long ∙ (ap (rows (suc n)) columns ∙ rows-push n old x.util kept.columns (sym six)) in
    let last : record (bare_vertex x.name k) { util = x.util } ≡ x = rw arcs refl in
    let all : kept_items (names ++ x.name ∷ []) (firsts ++ k ∷ []) g ≡ kept_items names firsts f ++ x ∷ [] =
    ap (λ rs. with_fields (combined bare_vertex (names ++ x.name ∷ []) (firsts ++ k ∷ [])) rs) table
    ∙ (ap (λ xs. with_fields xs (rows n old ++ x.util ∷ [])) (combined-push bare_vertex names firsts x.name k (sym kept.count))
    ∙ (combined-push put_fields bare (rows n old) (bare_vertex x.name k) x.util (same_length names firsts f kept)
    ∙ ap (λ y. with_fields bare (rows n old) ++ y ∷ []) last)) in
    record {
      whole = record {
        count = length_push firsts k ∙ (ap (λ m. m + 1) kept.count ∙ sym (length_push names x.name));
        columns = subst (λ m. AreColumns m (field_columns m g)) (sym long) (subst (AreColumns (suc n)) (sym columns) (columns_row n old x.util (sym six) kept.columns));
      };
      same = kinds_record (names ++ x.name ∷ []) (firsts ++ k ∷ []) g (column_kind f.u) (column_kind f.v) (column_kind f.w) (column_kind f.x) (column_kind f.y) (column_kind f.z) kinds
          ∙ ap (λ (xs : List Vertex). record (kept_vertices names firsts f) { items = xs }) all;
    }

-- the same, where room was taken before
pub vertex_pushed : (names reserved more : List (List ℕ)) (firsts held others : List ℕ) (k : ℕ) (f h g : Fields) (x : Vertex) → AreKept names firsts f
    → reserved ≡ names → more ≡ reserved ++ x.name ∷ [] → held ≡ firsts → others ≡ held ++ k ∷ [] → field_kinds h ≡ field_kinds f
    → ((n : ℕ) → field_columns n h ≡ field_columns n f) → field_kinds g ≡ field_kinds h
    → ((n : ℕ) → AreColumns n (field_columns n h) → field_columns (1 + n) g ≡ with_row (field_columns n h) x.util) → length x.util ≡ 6 → kept_number k ≡ x.arcs → AreMore names firsts f more others g x
vertex_pushed names reserved more firsts held others k f h g x kept same pushed as_before put kinds columns of_kinds row six arcs =
    let n = length names in
    let more_by_one : suc n ≡ 1 + n = omega arith in
    rw (pushed, same, put, as_before)
    (kept_more names firsts k f g x kept (of_kinds ∙ kinds) (ap (λ m. field_columns m g) more_by_one ∙ row n (subst (AreColumns n) (sym (columns n)) kept.columns) ∙ ap (λ t. with_row t x.util) (columns n)) six arcs)

-- what is kept stays so where room alone was taken
pub still_kept : (names reserved : List (List ℕ)) (firsts held : List ℕ) (f h : Fields) → AreKept names firsts f → reserved ≡ names → held ≡ firsts → ((n : ℕ) → field_columns n h ≡ field_columns n f) → AreKept reserved held h
still_kept names reserved firsts held f h kept same as_before columns =
    rw (same, as_before) (record { count = kept.count; columns = subst (AreColumns (length names)) (sym (columns (length names))) kept.columns })

-- numbers taken one after another: one more
pub taken_more : (k : ℕ) (value : ℤ) (numbers : List ℤ) (us : List Util) (u : Util) → slice_get us k ≡ Some u → number_or_zero u ≡ Int value
    → map (λ i. Int i) numbers ≡ take k (map number_or_zero us) → map (λ i. Int i) (numbers ++ value ∷ []) ≡ take (k + 1) (map number_or_zero us)
taken_more k value numbers us u given some so_far =
    let zs = map number_or_zero us in
    let below : k < length zs = omega (arith, slice_get_within us k u given, length-map us number_or_zero) in
    let here : get_or zs k (number_or_zero u) ≡ Int value = get_or-map number_or_zero us k u ∙ (ap number_or_zero (get_or_from_slice_get us k u u given) ∙ some) in
    map_push (λ i. Int i) numbers value
    ∙ (ap (λ ys. ys ++ Int value ∷ []) so_far
    ∙ sym (take_more zs k (number_or_zero u) below ∙ ap (λ y. take k zs ++ y ∷ []) here))
