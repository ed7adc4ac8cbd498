use Rattle.std.proofs.Common.{◌≡◌, ◌<◌, ◌≤◌, ℕ, ℤ, List, All, nat_abs}
use Rattle.std.specs.Prelude.{Some, slice_get}
use Rattle.sgb_gen.proofs.accepted.boards.runs.widest_in.Given as goal

-- no entry of the displacements before this one is greater
abbrev pub invariant-loop-k : goal.invariant-loop-k
invariant-loop-k l = (j : ℕ) (t : List ℤ) → j < l.k → slice_get l.table j ≡ Some t → All (λ e. nat_abs e ≤ l.widest) t
