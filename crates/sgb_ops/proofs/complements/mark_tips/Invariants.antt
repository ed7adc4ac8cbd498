use Rattle.std.proofs.Common.{◌≡◌, ℕ, drop, length}
use Rattle.sgb_ops.proofs.Marks.{mark_at}
use Rattle.sgb_ops.proofs.complements.mark_tips.Given as goal

-- with the marks of those that are to come, all are there
abbrev pub invariant-loop-tip : goal.invariant-loop-tip
invariant-loop-tip l =
    (length l.marks ≡ length l.fn.marks) × ((w : ℕ) → mark_at (drop l.tip-index l.tips) l.mark l.marks w ≡ mark_at l.tips l.mark l.fn.marks w)
