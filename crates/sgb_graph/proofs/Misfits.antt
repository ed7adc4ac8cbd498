-- Parts with vertices or records that can stand in no graph of their kinds.
use Rattle.sgb_vec.proofs.Common.{Bool, ◌≡◌, ◌<◌, ◌+◌, ◌^◌, ◌&&◌, ◌++◌, ◌∙◌, true, false, List, [], ◌∷◌, length, refl, ap, arith, ◌==◌, Err, list_all, and_parts, eqb-true, append-nil, length-append, list_all-append}
use Rattle.sgb_vec.specs.declared.panics.Panic.TheVariants.{Syntax}
use Rattle.sgb_graph.specs.Graphs.{GraphData}
use Rattle.sgb_graph.specs.Parts.{checked}
use Rattle.sgb_graph.specs.Sound.{IsGraph}
use Rattle.sgb_graph.specs.inner.Fitting.{first_fails, most, record_may_fit, vertex_may_fit, with_more}
use Rattle.sgb_graph.specs.declared.fields.ArcRec.{ArcRec}
use Rattle.sgb_graph.specs.declared.fields.Vertex.{Vertex}
use Rattle.sgb_graph.proofs.CheckedParts.{other_is_refused}
use Rattle.sgb_graph.proofs.Fitting.{record_fits_in, record_fits_in_more, vertex_fits_in, vertex_fits_in_more}
use Rattle.sgb_graph.proofs.Growing.{parts_of}

-- there are none
pub are_none : (vertices : List Vertex) (records : List ArcRec) → (length vertices == 0 && length records == 0) ≡ true → (length vertices ≡ 0) × (length records ≡ 0)
are_none vertices records e = grind (arith, and_parts, eqb-true)

-- parts with none more
pub with_none : (vertices : List Vertex) (records : List ArcRec) (g : GraphData) → length vertices ≡ 0 → length records ≡ 0 → with_more vertices records g ≡ g
with_none [] [] g v r =
    ap (λ xs. record g { vertices = xs; records = g.records ++ [] }) (append-nil g.vertices) ∙ ap (λ xs. record g { records = xs }) (append-nil g.records)
with_none _ _ g v e = absurd (omega arith)

-- where all elements fit, and what fits may stand there, no list begins with one that may not
none_fails : {X : Type 0} (fits may : X → Bool) (xs ys : List X) → ((x : X) → fits x ≡ true → may x ≡ true) → list_all fits (xs ++ ys) ≡ true → first_fails may ys ≡ true → length ys ≡ 0
none_fails fits may xs [] follows all fails = refl
none_fails fits may xs (y ∷ ys) follows all fails = grind (arith, list_all-append, and_parts)

-- so no graph has a vertex that fails
no_vertex : (g : GraphData) (vertices : List Vertex) (records : List ArcRec) → first_fails (vertex_may_fit g.kinds) vertices ≡ true → length g.vertices + length vertices < 2 ^ 64 → length g.records + length records < 2 ^ 64
    → IsGraph (with_more vertices records g) → length vertices ≡ 0
no_vertex g vertices records fails few_v few_r is =
    none_fails (vertex_fits_in (length (g.vertices ++ vertices)) (length (g.records ++ records)) g.kinds) (vertex_may_fit g.kinds) g.vertices vertices
    (λ x. vertex_fits_in_more _ _ most most g.kinds x (omega (arith, length-append g.vertices vertices)) (omega (arith, length-append g.records records)))
    (parts_of (with_more vertices records g) is).vertices fails

-- nor a record
no_record : (g : GraphData) (vertices : List Vertex) (records : List ArcRec) → first_fails (record_may_fit g.kinds) records ≡ true → length g.vertices + length vertices < 2 ^ 64 → length g.records + length records < 2 ^ 64
    → IsGraph (with_more vertices records g) → length records ≡ 0
no_record g vertices records fails few_v few_r is =
    none_fails (record_fits_in (length (g.vertices ++ vertices)) (length (g.records ++ records)) g.kinds) (record_may_fit g.kinds) g.records records
    (λ r. record_fits_in_more _ _ most most g.kinds r (omega (arith, length-append g.vertices vertices)) (omega (arith, length-append g.records records)))
    (parts_of (with_more vertices records g) is).records fails

-- so parts with either are refused
pub misfits_refused : (g : GraphData) (vertices : List Vertex) (records : List ArcRec) → first_fails (vertex_may_fit g.kinds) vertices ≡ true → first_fails (record_may_fit g.kinds) records ≡ true
    → length g.vertices + length vertices < 2 ^ 64 → length g.records + length records < 2 ^ 64 → (length vertices == 0 && length records == 0) ≡ false → checked (with_more vertices records g) ≡ Err Syntax
misfits_refused g vertices records fail_v fail_r few_v few_r some = grind (arith, other_is_refused, no_vertex, no_record)
