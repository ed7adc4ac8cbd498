use Rattle.sgb_vec.proofs.Common.{◌≡◌, ◌+◌, ◌≤◌, length, drop, nat_eq, common_prefix_len}
use Rattle.sgb_expr.proofs.numbers.common_prefix.Given as goal

abbrev pub invariant-loop-a : goal.invariant-loop-a
invariant-loop-a l =
    (l.same ≡ length l.yielded) × (l.same ≤ length l.left) × (l.same ≤ length l.right)
    × (common_prefix_len nat_eq l.left l.right ≡ l.same + common_prefix_len nat_eq (drop l.same l.left) (drop l.same l.right))
