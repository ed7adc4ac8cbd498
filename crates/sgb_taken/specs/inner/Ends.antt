-- The ends of an event, its length and its arc.
use Rattle.std.specs.Prelude.{◌+◌, ◌%◌, ℕ, min, max, Bool, true, false}
use Rattle.std.specs.Int.{int_min}
use Rattle.sgb_graph.specs.Events.{Event}
use Rattle.sgb_graph.specs.declared.fields.Link.{Link}

-- the two ends, those of edges with the smaller one first
abbrev pub ends_key : Bool → Event → ℕ × ℕ
ends_key true e = (e.from, e.to)
ends_key false e = (min e.from e.to, max e.from e.to)

-- the place of the bit of an event in a table of 16384 bits: made of the sum of the ends, and so the same for both orders
abbrev pub bit_place : Event → ℕ
bit_place e = (e.from + e.to) % 16384

-- an event with the lesser of its length and that of another
abbrev pub shortened : Event → Event → Event
shortened e other = record e { len = int_min e.len other.len }

-- the arc of an event, as far as tip and length go
abbrev pub link_of : Event → Link
link_of e = record { number = 0; tip = e.to; len = e.len }
