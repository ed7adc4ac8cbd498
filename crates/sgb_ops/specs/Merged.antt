-- Events with the same two ends made into one [GB_BASIC, gunion, induced].
use Rattle.std.specs.Prelude.{◌≡◌, ◌==◌, ◌≤ℤ◌, ℕ, All, Bool, true, false, not, ◌&&◌, ◌||◌, List, [], ◌∷◌, map, filter, flat_map, take, Contains, if◌then◌else◌}
use Rattle.std.specs.List.{list_any, enumerate_from}
use Rattle.sgb_graph.specs.Events.{Event}
use Rattle.sgb_ops.specs.Lengths.{least_of}

-- the two events have the same ends; those of edges in either order
abbrev pub has_ends_of : Bool → Event → Event → Bool
has_ends_of directed e f = ((f.from == e.from) && (f.to == e.to)) || (not directed && (f.from == e.to) && (f.to == e.from))

-- of the events with the same ends the first stays in its place, with the least length of them all
unfoldable pub merged : Bool → List Event → List Event
merged directed [] = []
merged directed (e ∷ events) =
    record e { len = least_of (e.len ∷ map (λ f. f.len) (filter (has_ends_of directed e) events)) }
    ∷ filter (λ f. not (has_ends_of directed e f)) (merged directed events)

-- the events as they are where parallel ones are wanted, merged where they are not
abbrev pub merged_unless : Bool → Bool → List Event → List Event
merged_unless multi directed events = elim multi [ true ↦ events | false ↦ merged directed events ]

-- the two ends of an event, as it names them
abbrev pub named_ends : Event → ℕ × ℕ
named_ends e = (e.from, e.to)

-- the events before which there is none with the same ends, in their order
abbrev pub first_ones : Bool → List Event → List Event
first_ones directed events =
    flat_map (λ p. if list_any (has_ends_of directed p.1) (take p.0 events) then [] else p.1 ∷ []) (enumerate_from 0 events)

-- the length of e is that of an event with its ends, and no event with its ends is shorter
pub record IsShortest (directed : Bool) (events : List Event) (e : Event) : Type 0 where
  pub one : (f : Event) × Contains events f × (has_ends_of directed e f ≡ true) × (f.len ≡ e.len)
  pub least : All (λ f. has_ends_of directed e f ≡ true → e.len ≤ℤ f.len) events
