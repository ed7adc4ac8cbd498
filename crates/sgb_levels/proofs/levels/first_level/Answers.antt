use Rattle.std.proofs.Common.{ℕ, Option, None, length, ap, arith}
use Rattle.std.proofs.lemmas.List.{length-replicate}
use Rattle.sgb_levels.proofs.Searching.{searched-first, searched-none}
use Rattle.sgb_levels.proofs.levels.first_level.Goals.{then-n-gt0+in_ok-mark, else-n-gt0}
use Rattle.sgb_levels.proofs.levels.first_level.Goals as goal

pub mark-requires : goal.mark-requires
mark-requires c = omega (arith, c.requires, ap length c.requires, length-replicate {A = Option ℕ} (length c.args.graph.now.vertices) None, c.n.ensures.count, c.if-n-gt0.true)

pub returns-clause-searched : goal.returns-clause-searched
returns-clause-searched c = elim c.if-n-gt0.branch [
  | then-n-gt0+in_ok-mark w ↦ rw (w.found-is, w.level-is) (searched-first c.args.graph.now c.args.found.now _ _ (omega (arith, c.n.ensures.count, w.if-n-gt0.true)) c.requires (rw c.new-level.ensures.items at w.in_ok-mark.ensures.marks))
  | else-n-gt0 w ↦ rw (w.found-is, w.level-is, c.new-level.ensures.items) (searched-none c.args.graph.now c.args.found.now (omega (arith, c.n.ensures.count, w.if-n-gt0.false)) c.requires)
]
