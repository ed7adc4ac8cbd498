use Rattle.std.proofs.Common.{◌≡◌, ◌++◌, map, filter, nat_lt}
use Rattle.sgb_ops.specs.inner.Ends.{event_of}
use Rattle.sgb_taken.specs.Taken.{taken}
use Rattle.sgb_ops.proofs.sources.push_taken.Given as goal

-- with the events of the arcs that are to come, they are all
abbrev pub invariant-loop-link : goal.invariant-loop-link
invariant-loop-link l =
    l.events.items ++ map (event_of l.v) (filter (λ x. nat_lt x.tip l.n) l.link-iterator)
    ≡ l.fn.events.items ++ map (event_of l.v) (filter (λ x. nat_lt x.tip l.n) (taken l.directed l.graph l.v))
