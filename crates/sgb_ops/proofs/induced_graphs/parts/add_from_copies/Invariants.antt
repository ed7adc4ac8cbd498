use Rattle.std.specs.List.{flat_map}
use Rattle.sgb_graph.proofs.AddedEvents.{AddsUpTo}
use Rattle.sgb_ops.specs.Entries.{copies_of}
use Rattle.sgb_ops.specs.inner.Copies.{copies_end}
use Rattle.sgb_ops.proofs.InducedParts.{copy_part}
use Rattle.sgb_ops.proofs.WantedEvents.{events_until}
use Rattle.sgb_ops.proofs.induced_graphs.parts.add_from_copies.Given as goal

-- the events from the copies from u on are still to come
abbrev pub invariant-loop-u : goal.invariant-loop-u
invariant-loop-u l =
    let part = copy_part l.fn.flags.self_loops l.fn.flags.multi l.graph l.copies l.fn.flags.directed l.v in
    AddsUpTo l.fn.flags.directed l.fn.built l.built (events_until part (copies_end l.copies l.v) l.u) (flat_map part (copies_of l.copies l.v))
