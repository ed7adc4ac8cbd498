use Rattle.std.proofs.Common.{rules, arith}
use Rattle.sgb_ops.proofs.UnionEvents.{of_both, of_first}
use Rattle.sgb_ops.proofs.gunions.events_from.Goals as goal

pub returns-clause-ok : goal.returns-clause-ok
returns-clause-ok c =
    of_both c.args.first.now c.args.second.now c.args.directed c.args.v c.n.ensures.tips c.requires.vertex _ _ c.push_taken-2.new.events.items (omega arith) c.clear.ensures.items
    (rw c.n.ensures.count at c.in_ok-push_taken.ensures.ok)
    (rw c.n-3.ensures.count at c.in_ok-push_taken-2.ensures.ok)

pub returns-then-v-n-clause-ok : goal.returns-then-v-n-clause-ok
returns-then-v-n-clause-ok c = search (rules, of_first)
