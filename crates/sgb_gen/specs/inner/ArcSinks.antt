-- What each taker of arcs keeps to.
use Rattle.std.specs.Prelude.{List, [], ◌++◌}
use Rattle.sgb_gen.specs.LocalLists.{LocalArc}

-- arcs are taken one after another: none leave all as it is, some and then others are both, and a fault before all of some arcs
-- is one before all of those around them
pub record AreTakenInTurn {R S F : Type 0} (took : R → S → List LocalArc → R → S → Type 0) (cut : R → S → List LocalArc → R → S → F → Type 0) : Type 0 where
  pub none : (r : R) (o : S) → took r o [] r o
  pub more : (xs ys : List LocalArc) (ra : R) (oa : S) (rb : R) (ob : S) (rc : R) (oc : S) → took ra oa xs rb ob → took rb ob ys rc oc → took ra oa (xs ++ ys) rc oc
  pub cut_after : (xs ys : List LocalArc) (ra : R) (oa : S) (rb : R) (ob : S) (rc : R) (oc : S) (f : F) → took ra oa xs rb ob → cut rb ob ys rc oc f → cut ra oa (xs ++ ys) rc oc f
  pub cut_more : (xs ys : List LocalArc) (ra : R) (oa : S) (rb : R) (ob : S) (f : F) → cut ra oa xs rb ob f → cut ra oa (xs ++ ys) rb ob f
