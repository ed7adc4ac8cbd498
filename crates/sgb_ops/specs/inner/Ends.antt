-- The ends of events, and events that are merged one by one [GB_BASIC, gunion].
use Rattle.std.specs.Prelude.{if◌then◌else◌, ℕ, All, Bool, List, [], ◌∷◌}
use Rattle.sgb_graph.specs.Events.{Event, HasEndsBelow}
use Rattle.sgb_graph.specs.declared.fields.Link.{Link}
use Rattle.sgb_taken.specs.inner.Ends.{shortened}
use Rattle.sgb_ops.specs.Merged.{has_ends_of}

-- the event of an arc on the list of v
abbrev pub event_of : ℕ → Link → Event
event_of v l = record { from = v; to = l.tip; len = l.len }

-- the ends of the events are vertices of a graph that has n of them
abbrev pub AllWithin : ℕ → List Event → Type 0
AllWithin n events = All (HasEndsBelow n) events

-- merged events and one more: it shortens the one that has its ends, or comes last
abbrev pub with_event : Bool → List Event → Event → List Event
with_event directed [] e = e ∷ []
with_event directed (f ∷ events) e = if has_ends_of directed f e then shortened f e ∷ events else f ∷ with_event directed events e
