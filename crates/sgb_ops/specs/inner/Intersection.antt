-- The events of an intersection one by one, and the tables by which they are found [GB_BASIC, intersection].
use Rattle.std.specs.Prelude.{◌≡◌, ℕ, Bool, List, [], ◌∷◌, None, nat_lt, if◌then◌else◌}
use Rattle.sgb_graph.specs.Events.{Event}
use Rattle.sgb_graph.specs.declared.fields.Link.{Link}
use Rattle.sgb_ops.specs.declared.intersections.Tables.{Tables}
use Rattle.sgb_ops.specs.inner.Tallies.{tally_at}
use Rattle.sgb_ops.specs.Intersection.{common_count, common_length, count_to}

-- the event from v for l, before which the arcs `before` of hs stand; none where these have enough to its tip
abbrev pub common_event : Bool → ℕ → List Link → List Link → List Link → Link → List Event
common_event multi v gs hs before l =
    if nat_lt (count_to l.tip before) (common_count multi l.tip gs hs)
    then record { from = v; to = l.tip; len = common_length multi gs hs l } ∷ []
    else []

-- nothing stands in the tables
pub record HasNoTallies (t : Tables) : Type 0 where
  pub left : (u : ℕ) → tally_at t.left.items u ≡ None
  pub second : (u : ℕ) → tally_at t.second.items u ≡ None
