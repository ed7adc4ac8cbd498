-- Graphs that are copied part by part.
use Rattle.std.proofs.Common.{◌≡◌, ◌∙◌, ◌+◌, ℕ, List, take, Some, Result, Ok, Err, ap, sym, arith, inl, inr}
use Rattle.std.specs.Prelude.{IfOk, IsOkUnless, slice_get}
use Rattle.sgb_vec.specs.Results.{IsValue}
use Rattle.sgb_vec.specs.declared.panics.Panic.{Panic}
use Rattle.sgb_vec.specs.declared.panics.Panic.TheVariants.{NoRoom}
use Rattle.sgb_gen.proofs.FamilyWalks.{take_at_vector}
use Rattle.sgb_graph.specs.Graphs.{GraphData}
use Rattle.sgb_graph.specs.Growth.{IsKept}
use Rattle.sgb_graph.specs.Parts.{checked, with_record, with_vertex}
use Rattle.sgb_graph.specs.declared.fields.Vertex.{Vertex}
use Rattle.sgb_graph.specs.declared.fields.ArcRec.{ArcRec}
use Rattle.sgb_graph.proofs.CheckedParts.{graph_is_checked}
use Rattle.sgb_arrays.specs.inner.CopiedParts.{with_records, with_vertices}

-- with one vertex more, one record more
pub vertex_more : (parts before now : GraphData) (vertices : List Vertex) (v : ℕ) (x : Vertex) → before ≡ with_vertices (take v vertices) parts → slice_get vertices v ≡ Some x → now ≡ with_vertex x before
    → now ≡ with_vertices (take (v + 1) vertices) parts
vertex_more parts before now vertices v x stands at is = is ∙ ap (with_vertex x) stands ∙ ap (λ vs. with_vertices vs parts) (sym (take_at_vector vertices v x at))

pub record_more : (parts before now : GraphData) (records : List ArcRec) (k : ℕ) (x : ArcRec) → before ≡ with_records (take k records) parts → slice_get records k ≡ Some x → now ≡ with_record x before
    → now ≡ with_records (take (k + 1) records) parts
record_more parts before now records k x stands at is = is ∙ ap (with_record x) stands ∙ ap (λ rs. with_records rs parts) (sym (take_at_vector records k x at))

-- what comes of parts that are those of a graph
pub checked_copy : (g parts : GraphData) (r : Result GraphData Panic) → IsKept g → parts ≡ g → IsValue (checked parts) r → IfOk r (λ h. h ≡ g)
checked_copy g parts (Ok h) kept same value =
    let is : Ok g ≡ Ok h = sym (ap checked same ∙ graph_is_checked g kept.graph) ∙ value in grind (arith, is)
checked_copy g parts (Err p) kept same value = tt

pub checked_memory : (g parts : GraphData) (r : Result GraphData Panic) → IsKept g → parts ≡ g → IsValue (checked parts) r → IsOkUnless r NoRoom
checked_memory g parts (Ok h) kept same value = tt
checked_memory g parts (Err p) kept same (inl value) =
    let is : Ok g ≡ Err p = sym (ap checked same ∙ graph_is_checked g kept.graph) ∙ value in absurd (grind (arith, is))
checked_memory g parts (Err p) kept same (inr none) = none
