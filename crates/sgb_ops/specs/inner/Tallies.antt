-- What is noted of the arcs to each vertex, to find common arcs [GB_BASIC, intersection].
use Rattle.std.specs.Prelude.{ℕ, ℤ, ◌+◌, ◌-◌, ◌==◌, Bool, true, false, List, [], ◌∷◌, length, map, filter, slice_index_or, Option, Some, None, if◌then◌else◌}
use Rattle.sgb_graph.specs.Events.{Event}
use Rattle.sgb_graph.specs.declared.fields.Link.{Link}
use Rattle.std.specs.Int.{int_max, int_min}
use Rattle.sgb_ops.specs.Lengths.{least_of}
use Rattle.sgb_ops.specs.declared.tallies.Tally.{Tally}

-- of some arcs to one vertex: how many there are and their least length; nothing of none
abbrev pub tally_of : List Link → Option Tally
tally_of [] = None
tally_of (l ∷ links) = Some (record { count = length (l ∷ links); least = least_of (map (λ x. x.len) (l ∷ links)) })

-- of those that lead to u
abbrev pub tally_to : ℕ → List Link → Option Tally
tally_to u links = tally_of (filter (λ l. l.tip == u) links)

-- what a table of tallies, one for each vertex, has of u
abbrev pub tally_at : List (Option Tally) → ℕ → Option Tally
tally_at tallies u = slice_index_or tallies u None

-- with one arc more, of this length
abbrev pub one_more : ℤ → Option Tally → Tally
one_more far None = record { count = 1; least = far }
one_more far (Some t) = record { count = t.count + 1; least = int_min t.least far }

-- with one arc less; with none, unless parallel arcs are wanted
abbrev pub one_less : Bool → Tally → Tally
one_less multi t = record t { count = if multi then t.count - 1 else 0 }

abbrev pub without_one : Bool → Option Tally → Option Tally
without_one multi None = None
without_one multi (Some t) = Some (one_less multi t)

-- how many of the arcs are left when so many were met
abbrev pub count_left : Bool → ℕ → ℕ → ℕ
count_left true count met = count - met
count_left false count met = if met == 0 then count else 0

abbrev pub tally_left : Bool → ℕ → Option Tally → Option Tally
tally_left multi met None = None
tally_left multi met (Some t) = Some (record t { count = count_left multi t.count met })

-- the length of a common arc, by that of the second graph's and the least one there
abbrev pub second_length : Bool → ℤ → Option Tally → ℤ
second_length true far theirs = far
second_length false far None = far
second_length false far (Some t) = t.least

-- the event from v to u, where some arcs of the first graph to u are left
abbrev pub event_left : ℕ → ℕ → ℤ → Option Tally → List Event
event_left v u far None = []
event_left v u far (Some t) = if t.count == 0 then [] else record { from = v; to = u; len = int_max t.least far } ∷ []
