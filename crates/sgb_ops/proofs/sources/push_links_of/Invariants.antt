use Rattle.std.proofs.Common.{◌≡◌, ◌++◌, drop, map}
use Rattle.sgb_taken.specs.inner.Ends.{link_of}
use Rattle.sgb_ops.proofs.sources.push_links_of.Given as goal

-- with the arcs of the events that are to come, they are all
abbrev pub invariant-loop-event : goal.invariant-loop-event
invariant-loop-event l = l.arcs.items ++ map link_of (drop l.event-index l.events) ≡ l.fn.arcs.items ++ map link_of l.events
