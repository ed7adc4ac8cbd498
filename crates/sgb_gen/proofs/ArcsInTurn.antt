-- Arcs that are handed out one by one, part after part, until one is not taken.
use Rattle.std.proofs.Common.{◌≡◌, List, [], ◌++◌, Result, Ok, Err, refl, sym, ap, subst, ◌∙◌, append_assoc, append-nil}
use Rattle.std.specs.Result.{IsErrAnd}
use Rattle.sgb_gen.specs.ArcSinks.{AreGiven}
use Rattle.sgb_gen.specs.LocalLists.{LocalArc}
use Rattle.sgb_gen.specs.inner.ArcSinks.{AreTakenInTurn}

-- what a taker of arcs keeps to: for takers of other crates
abbrev pub TakesInTurn : {R S F : Type 0} → (R → S → List LocalArc → R → S → Type 0) → (R → S → List LocalArc → R → S → F → Type 0) → Type 0
TakesInTurn took cut = AreTakenInTurn took cut

-- of all arcs, these are left; the others were taken
abbrev pub TakenSoFar : {R S : Type 0} → (R → S → List LocalArc → R → S → Type 0) → (all left : List LocalArc) → R → S → R → S → Type 0
TakenSoFar took all left ra oa rb ob = (done : List LocalArc) × (done ++ left ≡ all) × took ra oa done rb ob

module _ {R S F : Type 0} {took : R → S → List LocalArc → R → S → Type 0} {cut : R → S → List LocalArc → R → S → F → Type 0} (turn : AreTakenInTurn took cut) where
  -- none were taken
  pub so_far_begun : (all left : List LocalArc) (r : R) (o : S) → left ≡ all → TakenSoFar took all left r o r o
  so_far_begun all left r o e = ([], e, turn.none r o)

  -- the next part was taken
  pub so_far_more : (all left part rest : List LocalArc) (ra : R) (oa : S) (rb : R) (ob : S) (rc : R) (oc : S) → left ≡ part ++ rest → TakenSoFar took all left ra oa rb ob → took rb ob part rc oc
      → TakenSoFar took all rest ra oa rc oc
  so_far_more all left part rest ra oa rb ob rc oc e p q =
      (p.0 ++ part, append_assoc p.0 part rest ∙ ap (λ l. p.0 ++ l) (sym e) ∙ p.1, turn.more p.0 part ra oa rb ob rc oc p.2 q)

  -- all were taken
  pub so_far_all : (all left : List LocalArc) (ra : R) (oa : S) (rb : R) (ob : S) → left ≡ [] → TakenSoFar took all left ra oa rb ob → took ra oa all rb ob
  so_far_all all left ra oa rb ob e p =
      subst (λ l. took ra oa l rb ob) (sym (append-nil p.0) ∙ ap (λ l. p.0 ++ l) (sym e) ∙ p.1) p.2

  -- a fault came before all of the next part
  pub so_far_cut : (all left part rest : List LocalArc) (ra : R) (oa : S) (rb : R) (ob : S) (rc : R) (oc : S) (f : F) → left ≡ part ++ rest → TakenSoFar took all left ra oa rb ob → cut rb ob part rc oc f
      → cut ra oa all rc oc f
  so_far_cut all left part rest ra oa rb ob rc oc f e p q =
      subst (λ l. cut ra oa l rc oc f) (append_assoc p.0 part rest ∙ ap (λ l. p.0 ++ l) (sym e) ∙ p.1) (turn.cut_more (p.0 ++ part) rest ra oa rc oc f (turn.cut_after p.0 part ra oa rb ob rc oc f p.2 q))

  -- the exit of a `?` with that fault
  pub exit_part : {T : Type 0} (all left part rest : List LocalArc) (ra : R) (oa : S) (rb : R) (ob : S) (rc : R) (oc : S) (r : Result T F) (f : F) → IsErrAnd r (λ g. g ≡ f) → left ≡ part ++ rest
      → TakenSoFar took all left ra oa rb ob → cut rb ob part rc oc f → AreGiven took cut ra oa all rc oc r
  exit_part all left part rest ra oa rb ob rc oc (Ok x) f exit e p q = absurd exit
  exit_part all left part rest ra oa rb ob rc oc (Err g) f exit e p q =
      subst (λ h. cut ra oa all rc oc h) (sym exit) (so_far_cut all left part rest ra oa rb ob rc oc f e p q)

  -- what becomes of the last part is what becomes of all
  pub given_last : {T : Type 0} (all left : List LocalArc) (ra : R) (oa : S) (rb : R) (ob : S) (rc : R) (oc : S) (r : Result T F) → TakenSoFar took all left ra oa rb ob → AreGiven took cut rb ob left rc oc r
      → AreGiven took cut ra oa all rc oc r
  given_last all left ra oa rb ob rc oc (Ok x) p q = so_far_all all [] ra oa rc oc refl (so_far_more all left left [] ra oa rb ob rc oc (sym (append-nil left)) p q)
  given_last all left ra oa rb ob rc oc (Err f) p q = so_far_cut all left left [] ra oa rb ob rc oc f (sym (append-nil left)) p q

  -- no arcs at all
  pub took_none : (arcs : List LocalArc) (r : R) (o : S) → arcs ≡ [] → took r o arcs r o
  took_none arcs r o e = subst (λ l. took r o l r o) (sym e) (turn.none r o)

  -- the same arcs
  pub given_as : {T : Type 0} (xs ys : List LocalArc) (ra : R) (oa : S) (rb : R) (ob : S) (r : Result T F) → xs ≡ ys → AreGiven took cut ra oa xs rb ob r → AreGiven took cut ra oa ys rb ob r
  given_as xs ys ra oa rb ob r e p = subst (λ l. AreGiven took cut ra oa l rb ob r) e p
