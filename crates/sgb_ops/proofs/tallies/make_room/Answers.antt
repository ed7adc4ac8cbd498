use Rattle.std.proofs.Common.{◌≡◌, ◌++◌, ◌∷◌, ◌∙◌, [], ℕ, zero, suc, List, length, Option, None, refl, ap, arith, length-append}
use Rattle.sgb_ops.specs.declared.tallies.Tally.{Tally}
use Rattle.sgb_ops.specs.inner.Tallies.{tally_at}
use Rattle.sgb_ops.proofs.tallies.make_room.Goals as goal

-- one place more with nothing in it
none_more : (tallies : List (Option Tally)) (u : ℕ) → tally_at tallies u ≡ None → tally_at (tallies ++ None ∷ []) u ≡ None
none_more [] zero none = refl
none_more [] (suc u) none = refl
none_more (t ∷ tallies) zero none = none
none_more (t ∷ tallies) (suc u) none = none_more tallies u none

pub loop-u-preserved : goal.loop-u-preserved
loop-u-preserved c = (
  omega (arith, ap length c.in_ok-push.ensures.items, length-append c.loop-u.tallies.items (None ∷ []), c.loop-u.invariant.0),
  (λ u. ap (λ ts. tally_at ts u) c.in_ok-push.ensures.items ∙ none_more c.loop-u.tallies.items u (c.loop-u.invariant.1 u)),
)
