use Rattle.std.proofs.Common.{◌-◌, map}
use Rattle.std.specs.List.{range_with_len}
use Rattle.sgb_graph.proofs.AddedEvents.{AddsUpTo}
use Rattle.sgb_ops.specs.inner.Induced.{event_between}
use Rattle.sgb_ops.proofs.PlainLists.{places_from}
use Rattle.sgb_ops.proofs.induced_graphs.added.add_to_all.Given as goal

-- the events to the vertices from t on are still to come
abbrev pub invariant-loop-t : goal.invariant-loop-t
invariant-loop-t l =
    AddsUpTo l.directed l.fn.built l.built (map (event_between l.u l.len) (places_from l.end l.t)) (map (event_between l.u l.len) (range_with_len l.start (l.end - l.start)))
