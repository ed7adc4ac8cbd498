use Rattle.std.proofs.Common.{◌≡◌, ◌<◌, ℕ, ℤ, List, true}
use Rattle.std.specs.Prelude.{Some, slice_get}
use Rattle.sgb_moves.specs.inner.Moves.{leads_onward}
use Rattle.sgb_gen.proofs.accepted.boards.runs.all_lead_onward.Given as goal

-- the displacements before this one lead onward
abbrev pub invariant-loop-k : goal.invariant-loop-k
invariant-loop-k l = (j : ℕ) (t : List ℤ) → j < l.k → slice_get l.table j ≡ Some t → leads_onward l.wrap 0 t ≡ true
