-- The graph of accepted parameters, built.
use Rattle.std.proofs.Common.{◌≡◌, ℕ, length, sym, subst}
use Rattle.std.specs.Prelude.{IfErr, IfOk, Result, Ok, Err}
use Rattle.sgb_vec.specs.declared.panics.Panic.{Panic}
use Rattle.sgb_file.specs.Saving.{text_of_graph}
use Rattle.sgb_graph.specs.Descriptions.{Description, IsAnswerOf}
use Rattle.sgb_graph.specs.Graphs.{GraphData}
use Rattle.sgb_graph.specs.Made.{graph_described}
use Rattle.sgb_graph.proofs.Described.{described_only}
use Rattle.sgb_arrays.specs.OpenGraphs.{IsFileRefusal}
use Rattle.sgb_arrays.specs.declared.refusals.Wrong.{Wrong}
use Rattle.sgb_arrays.specs.declared.refusals.Wrong.TheVariants as wrong

-- it is the one that is described
pub built_is : (d : Description) (r : Result GraphData Panic) → IsAnswerOf (Ok d) r → IfOk r (λ g. g ≡ graph_described d)
built_is d (Ok g) is = described_only d g is
built_is d (Err p) none = tt

-- why its file is not handed over
pub file_refused : {T : Type 0} (g : GraphData) (places : ℕ) (left memory : Type 0) (r : Result T Wrong) → IfErr r (λ why. (why ≡ wrong.Length) × (places ≡ length (text_of_graph g) → ⊥) × left)
    → IfErr r (λ why. IsFileRefusal g places memory why × left)
file_refused g places left memory (Ok x) said = said
file_refused g places left memory (Err why) (is, out, kept) = (subst (λ w. IsFileRefusal g places memory w) (sym is) out, kept)
