-- Arrays of a run, copied to others of their lengths.
use Rattle.std.proofs.Common.{◌≡◌, ◌∙◌, ℕ, ℤ, ◌+◌, List, length, sym, ap, subst}
use Rattle.std.specs.Prelude.{Result, Ok, Err, IfErr}
use Rattle.std.proofs.lemmas.List.{length-map}
use Rattle.sgb_graph.specs.Graphs.{GraphData, chain_of}
use Rattle.sgb_graph.specs.declared.fields.Link.{Link}
use Rattle.sgb_arrays.specs.Copies.{HaveLengthsOfNames, HaveLengthsOfRows, HaveLengthsOfTips}
use Rattle.sgb_arrays.specs.Runs.{AreNames, AreRows, AreTips, HaveNameLengths, HaveRowLengths, HaveTipLengths, IsFillRefusal, IsThere, parts_of}
use Rattle.sgb_graph.specs.Vertices.{name_at}
use Rattle.sgb_arrays.specs.declared.names.Names.{Names}
use Rattle.sgb_arrays.specs.declared.refusals.Wrong.{Wrong}
use Rattle.sgb_arrays.specs.declared.refusals.Wrong.TheVariants as wrong
use Rattle.sgb_arrays.specs.declared.rows.Rows.{Rows}
use Rattle.sgb_arrays.proofs.RunSteps.{length-part_starts}

-- arrays of a run that is there do not fit
pub unfit_there : (g : GraphData) (first count : ℕ) (fits memory : Type 0) (why : Wrong) → why ≡ wrong.Length → IsThere g first count → (fits → ⊥) → IsFillRefusal g first count fits memory why
unfit_there g first count fits memory why is there out = subst (λ w. IsFillRefusal g first count fits memory w) (sym is) (there, out)

-- the lists
module _ (g : GraphData) (first count : ℕ) (rows : Rows) (are : AreRows g first count rows.starts.items rows.tips.items rows.lengths.items) (starts tips : List ℕ) (lengths : List ℤ) where
  begun : length rows.starts.items ≡ count + 1
  begun = ap length are.starts_are ∙ length-part_starts (chain_of g) first count

  led : length rows.tips.items ≡ length (parts_of (chain_of g) first count)
  led = ap length are.tips_are ∙ length-map (parts_of (chain_of g) first count) (λ (l : Link). l.tip)

  weighed : length rows.lengths.items ≡ length (parts_of (chain_of g) first count)
  weighed = ap length are.lengths_are ∙ length-map (parts_of (chain_of g) first count) (λ (l : Link). l.len)

  -- arrays of the lengths of those that hold the lists of a run are filled with the lists
  pub rows_copied : (begins leads : List ℕ) (weights : List ℤ) → IsThere g first count
      → HaveLengthsOfRows rows starts tips lengths × (begins ≡ rows.starts.items) × (leads ≡ rows.tips.items) × (weights ≡ rows.lengths.items)
      → IsThere g first count × HaveRowLengths g first count starts tips lengths × AreRows g first count begins leads weights
  rows_copied begins leads weights there ((s, t, l), b, d, w) =
      (there, record { starts_fit = s ∙ begun; tips_fit = t ∙ led; lengths_fit = l ∙ weighed }, record { starts_are = b ∙ are.starts_are; tips_are = d ∙ are.tips_are; lengths_are = w ∙ are.lengths_are })

  -- others do not fit
  rows_unfit : (HaveLengthsOfRows rows starts tips lengths → ⊥) → HaveRowLengths g first count starts tips lengths → ⊥
  rows_unfit out fit = out (fit.starts_fit ∙ sym begun, fit.tips_fit ∙ sym led, fit.lengths_fit ∙ sym weighed)

  pub rows_refused : {T : Type 0} (memory : Type 0) (r : Result T Wrong) (begins leads : List ℕ) (weights : List ℤ) → IsThere g first count
      → IfErr r (λ why. (why ≡ wrong.Length) × (HaveLengthsOfRows rows starts tips lengths → ⊥) × (begins ≡ starts) × (leads ≡ tips) × (weights ≡ lengths))
      → IfErr r (λ why. IsFillRefusal g first count (HaveRowLengths g first count starts tips lengths) memory why × (begins ≡ starts) × (leads ≡ tips) × (weights ≡ lengths))
  rows_refused memory (Ok x) begins leads weights there said = said
  rows_refused memory (Err why) begins leads weights there (is, out, b, d, w) = (unfit_there g first count _ memory why is there (rows_unfit out), b, d, w)

  -- the same without lengths
  pub tips_copied : (begins leads : List ℕ) → IsThere g first count
      → HaveLengthsOfTips rows starts tips × (begins ≡ rows.starts.items) × (leads ≡ rows.tips.items)
      → IsThere g first count × HaveTipLengths g first count starts tips × AreTips g first count begins leads
  tips_copied begins leads there ((s, t), b, d) =
      (there, record { starts_fit = s ∙ begun; tips_fit = t ∙ led }, record { starts_are = b ∙ are.starts_are; tips_are = d ∙ are.tips_are })

  tips_unfit : (HaveLengthsOfTips rows starts tips → ⊥) → HaveTipLengths g first count starts tips → ⊥
  tips_unfit out fit = out (fit.starts_fit ∙ sym begun, fit.tips_fit ∙ sym led)

  pub tips_refused : {T : Type 0} (memory : Type 0) (r : Result T Wrong) (begins leads : List ℕ) → IsThere g first count
      → IfErr r (λ why. (why ≡ wrong.Length) × (HaveLengthsOfTips rows starts tips → ⊥) × (begins ≡ starts) × (leads ≡ tips))
      → IfErr r (λ why. IsFillRefusal g first count (HaveTipLengths g first count starts tips) memory why × (begins ≡ starts) × (leads ≡ tips))
  tips_refused memory (Ok x) begins leads there said = said
  tips_refused memory (Err why) begins leads there (is, out, b, d) = (unfit_there g first count _ memory why is there (tips_unfit out), b, d)

-- the names
module _ (g : GraphData) (first count : ℕ) (names : Names) (are : AreNames g first count names.starts.items names.bytes.items) (starts bytes : List ℕ) where
  called : length names.starts.items ≡ count + 1
  called = ap length are.starts_are ∙ length-part_starts (name_at g) first count

  pub names_copied : (begins text : List ℕ) → IsThere g first count → HaveLengthsOfNames names starts bytes × (begins ≡ names.starts.items) × (text ≡ names.bytes.items)
      → IsThere g first count × HaveNameLengths g first count starts bytes × AreNames g first count begins text
  names_copied begins text there ((s, b), e, t) =
      (there, record { starts_fit = s ∙ called; bytes_fit = b ∙ ap length are.bytes_are }, record { starts_are = e ∙ are.starts_are; bytes_are = t ∙ are.bytes_are })

  names_unfit : (HaveLengthsOfNames names starts bytes → ⊥) → HaveNameLengths g first count starts bytes → ⊥
  names_unfit out fit = out (fit.starts_fit ∙ sym called, fit.bytes_fit ∙ sym (ap length are.bytes_are))

  pub names_refused : {T : Type 0} (memory : Type 0) (r : Result T Wrong) (begins text : List ℕ) → IsThere g first count
      → IfErr r (λ why. (why ≡ wrong.Length) × (HaveLengthsOfNames names starts bytes → ⊥) × (begins ≡ starts) × (text ≡ bytes))
      → IfErr r (λ why. IsFillRefusal g first count (HaveNameLengths g first count starts bytes) memory why × (begins ≡ starts) × (text ≡ bytes))
  names_refused memory (Ok x) begins text there said = said
  names_refused memory (Err why) begins text there (is, out, b, t) = (unfit_there g first count _ memory why is there (names_unfit out), b, t)
