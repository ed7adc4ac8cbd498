-- Events made one, and events no two of which have the same ends.
use Rattle.std.specs.Prelude.{◌≡◌, AllPairs, Bool, false, List, ◌∷◌, map, filter}
use Rattle.sgb_graph.specs.Events.{Event}
use Rattle.sgb_ops.specs.Lengths.{least_of}
use Rattle.sgb_ops.specs.Merged.{has_ends_of}

-- event e with the least length of e and of those events that have its ends
abbrev pub with_least_length : Bool → Event → List Event → Event
with_least_length directed e events =
    record e { len = least_of (e.len ∷ map (λ f. f.len) (filter (has_ends_of directed e) events)) }

-- no two of the events have the same ends, be they arcs or edges
abbrev pub HaveDifferentEnds : List Event → Type 0
HaveDifferentEnds events = (directed : Bool) → AllPairs (λ e f. has_ends_of directed e f ≡ false) events
