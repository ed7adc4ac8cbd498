use Rattle.std.proofs.Common.{length, flat_map}
use Rattle.sgb_ops.proofs.InducedParts.{inside_part}
use Rattle.sgb_ops.proofs.Places.{PlacesLeft}
use Rattle.sgb_ops.proofs.induced_graphs.parts.add_events_within.Given as goal

-- the events inside the entries from v on are still to come
abbrev pub invariant-loop-v : goal.invariant-loop-v
invariant-loop-v l = PlacesLeft l.flags.directed l.fn.built l.built (flat_map (inside_part l.flags.self_loops l.flags.multi l.entries l.flags.directed)) (length l.entries) l.v
