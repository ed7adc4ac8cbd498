use Rattle.std.proofs.Common.{◌≡◌, ◌++◌, ◌∷◌, ◌∙◌, [], ℕ, zero, suc, List, length, ap, arith, length-append}
use Rattle.smallvec.specs.SmallVec.{SmallVec}
use Rattle.sgb_ops.specs.inner.LineLists.{list_at}
use Rattle.sgb_ops.proofs.line_graphs.edges.empty_lists.Goals as goal

-- one empty list more
empty_more : (lists : List (SmallVec ℕ)) (v : SmallVec ℕ) (w : ℕ) → v.items ≡ [] → list_at lists w ≡ [] → list_at (lists ++ v ∷ []) w ≡ []
empty_more [] v zero empty all = empty
empty_more [] v (suc w) empty all = all
empty_more (x ∷ lists) v zero empty all = all
empty_more (x ∷ lists) v (suc w) empty all = empty_more lists v w empty all

pub loop-w-preserved : goal.loop-w-preserved
loop-w-preserved c = (
  (λ w. ap (λ ls. list_at ls w) c.in_ok-push.ensures.items ∙ empty_more c.loop-w.lists.items c.new.result w c.new.ensures.items (c.loop-w.invariant.0 w)),
  omega (arith, ap length c.in_ok-push.ensures.items, length-append c.loop-w.lists.items (c.new.result ∷ []), c.loop-w.invariant.1),
)
