use Rattle.std.proofs.Common.{◌≡◌, ◌++◌, drop, map}
use Rattle.sgb_ops.proofs.sources.push_tips_of.Given as goal

-- with those of the events that are to come, they are all
abbrev pub invariant-loop-event : goal.invariant-loop-event
invariant-loop-event l = l.tips.items ++ map (λ e. e.to) (drop l.event-index l.events) ≡ l.fn.tips.items ++ map (λ e. e.to) l.events
