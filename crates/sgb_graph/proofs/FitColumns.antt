-- Vertices and records fit where their columns do.
use Rattle.sgb_vec.proofs.Common.{rules, ◌≡◌, ◌&&◌, ℕ, zero, suc, Bool, true, List, [], ◌∷◌, length, replicate, refl, ap, sym, ◌∙◌, arith, list_all}
use Rattle.sgb_graph.specs.Sound.{chain_fits, util_fits, utils_fit}
use Rattle.sgb_graph.specs.inner.Columns.{HoldsMany, column_kind, values}
use Rattle.sgb_graph.specs.inner.Fitting.{record_fits_by, vertex_fits_by}
use Rattle.sgb_graph.specs.inner.KeptRecords.{KeptRecords, kept_number, kept_records, plain_fits, records_with}
use Rattle.sgb_graph.specs.inner.KeptVertices.{AreColumns, AreKept, KeptVertices, bare_vertex, columns_fit, combined, field_columns, field_kinds, kept_items, kept_vertices, kinds_of_vertices, rows}
use Rattle.sgb_graph.specs.declared.columns.Column.{Column}
use Rattle.sgb_graph.specs.declared.fields.Kind.{Kind}
use Rattle.sgb_graph.specs.declared.fields.Kind.TheVariants.{Z}
use Rattle.sgb_graph.specs.declared.fields.Util.{Util}
use Rattle.sgb_graph.specs.declared.fields.Util.TheVariants.{Nothing}
use Rattle.sgb_graph.specs.declared.fields.Vertex.{Vertex}
use Rattle.sgb_graph.specs.declared.leads.PlainRecord.{PlainRecord}
use Rattle.sgb_graph.specs.declared.vertices.fields.Fields.{Fields}
use Rattle.sgb_graph.proofs.KeptRecords.{length-kept_records}
use Rattle.sgb_graph.proofs.KeptVertices.{length-firsts, same_length}
use Rattle.sgb_graph.proofs.Tables.{length-rows}

-- values of a field that is not used
pub nothing_fits : (n m k : ℕ) → list_all (util_fits n m Z) (replicate k Nothing) ≡ true
nothing_fits n m zero = refl
nothing_fits n m (suc k) = nothing_fits n m k

-- rows of no fields
empty_fits : (n m k : ℕ) → list_all (utils_fit n m []) (replicate k []) ≡ true
empty_fits n m zero = refl
empty_fits n m (suc k) = empty_fits n m k

-- six of them
three_crossed : (a b c p x y : Bool) → ((a && (b && (c && true))) && ((p && x) && y)) ≡ (((a && p) && (b && x)) && (c && y))
three_crossed a b c p x y = grind (arith)

-- what is made of two lists passes where the elements of both do
list_all-combined : {X Y Z : Type 0} (f : X → Y → Z) (h : Z → Bool) (p : X → Bool) (q : Y → Bool) (xs : List X) (ys : List Y) → ((x : X) (y : Y) → h (f x y) ≡ (p x && q y)) → length xs ≡ length ys
    → list_all h (combined f xs ys) ≡ (list_all p xs && list_all q ys)
list_all-combined f h p q [] [] each e = refl
list_all-combined f h p q (x ∷ xs) (y ∷ ys) each e = grind (arith, list_all-combined f h p q xs ys each (omega (arith, e)))
list_all-combined f h p q _ _ each e = absurd (omega (arith, e))

-- the rows of a table fit where its columns do
rows_fit : (n m k : ℕ) (kinds : List Kind) (columns : List (List Util)) → AreColumns k columns → length kinds ≡ length columns → list_all (utils_fit n m kinds) (rows k columns) ≡ columns_fit n m kinds columns
rows_fit n m k [] [] whole e = empty_fits n m k
rows_fit n m k (kind ∷ kinds) (column ∷ columns) whole e = grind (arith, list_all-combined, length-rows, rows_fit n m k kinds columns whole.1 (omega (arith, e)))
rows_fit n m k _ _ whole e = absurd (omega (arith, e))

-- the first records of the vertices fit
firsts_fit : (m : ℕ) (names : List (List ℕ)) (firsts : List ℕ) → length firsts ≡ length names → list_all (λ (x : Vertex). chain_fits m x.arcs) (combined bare_vertex names firsts) ≡ list_all (λ k. chain_fits m (kept_number k)) firsts
firsts_fit m [] [] e = refl
firsts_fit m (name ∷ names) (k ∷ firsts) e = ap (λ b. chain_fits m (kept_number k) && b) (firsts_fit m names firsts (omega (arith, e)))
firsts_fit m _ _ e = absurd (omega (arith, e))

-- so do the vertices that are kept
items_fit : (n m : ℕ) (names : List (List ℕ)) (firsts : List ℕ) (f : Fields) → AreKept names firsts f
    → list_all (vertex_fits_by n m (field_kinds f)) (kept_items names firsts f) ≡ (list_all (λ k. chain_fits m (kept_number k)) firsts && columns_fit n m (field_kinds f) (field_columns (length names) f))
items_fit n m names firsts f kept =
    let k = length names in
    rw (← firsts_fit m names firsts kept.count, ← rows_fit n m k (field_kinds f) (field_columns k f) kept.columns refl)
    (list_all-combined (λ (x : Vertex) fields. record x { util = fields }) (vertex_fits_by n m (field_kinds f)) (λ (x : Vertex). chain_fits m x.arcs) (utils_fit n m (field_kinds f)) (combined bare_vertex names firsts) (rows k (field_columns k f))
    (λ x row. refl) (same_length names firsts f kept))

-- as they are seen
pub vertices_fit_by : (m : ℕ) (names : List (List ℕ)) (firsts : List ℕ) (f : Fields) (seen : KeptVertices) → AreKept names firsts f → kept_vertices names firsts f ≡ seen
    → (list_all (λ k. chain_fits m (kept_number k)) firsts && columns_fit (length firsts) m (field_kinds f) (field_columns (length firsts) f)) ≡ list_all (vertex_fits_by (length seen.items) m (kinds_of_vertices seen)) seen.items
vertices_fit_by m names firsts f seen kept view =
    ap (λ k. list_all (λ j. chain_fits m (kept_number j)) firsts && columns_fit (length firsts) m (field_kinds f) (field_columns k f)) kept.count
    ∙ (sym (items_fit (length firsts) m names firsts f kept)
    ∙ (ap (λ n. list_all (vertex_fits_by n m (field_kinds f)) (kept_items names firsts f)) (sym (length-firsts names firsts f (kept_vertices names firsts f) kept refl))
    ∙ ap (λ (g : KeptVertices). list_all (vertex_fits_by (length g.items) m (kinds_of_vertices g)) g.items) view))

-- and the records
records_fit : (n m : ℕ) (ps : List PlainRecord) (xs ys : List Util) (a b : Kind) → length xs ≡ length ps → length ys ≡ length ps
    → list_all (record_fits_by n m (a ∷ b ∷ [])) (records_with ps xs ys) ≡ (list_all (plain_fits n m) ps && list_all (util_fits n m a) xs && list_all (util_fits n m b) ys)
records_fit n m [] [] [] a b hx hy = refl
records_fit n m (p ∷ ps) (x ∷ xs) (y ∷ ys) a b hx hy = simp (three_crossed, records_fit n m ps xs ys a b (omega (arith, hx)) (omega (arith, hy)))
records_fit n m _ _ _ a b hx hy = absurd (omega (arith, hx, hy))

-- as they are seen
pub records_fit_by : (n m : ℕ) (ps : List PlainRecord) (a b : Column) (seen : KeptRecords) → m ≡ length ps → HoldsMany (length ps) a → HoldsMany (length ps) b → kept_records ps a b ≡ seen
    → (list_all (plain_fits n m) ps && list_all (util_fits n m (column_kind a)) (values (length ps) a) && list_all (util_fits n m (column_kind b)) (values (length ps) b))
    ≡ list_all (record_fits_by n (length seen.items) (seen.a ∷ seen.b ∷ [])) seen.items
records_fit_by n m ps a b seen count ha hb view = search (rules, records_fit, length-kept_records)
